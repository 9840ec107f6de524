-- The layout of a program, and the record at each offset. Assumes nothing.
use Rattle.std.proofs.Common.{◌≡◌, ℕ, zero, suc, ◌+◌, ◌-◌, ◌<◌, ◌≤◌, Bool, true, false, cond, eqb, ltb, List, [], ◌∷◌, ◌++◌, length, get_or, replicate, Some, None, Option, sym, refl, ap, ◌∙◌, inl, inr, arith, length-append}
use Rattle.std.proofs.lemmas.Bool.{cases_Bool, ltb-false, ltb-true}
use Rattle.std.proofs.lemmas.Bool.Decides.{nat_tests}
use Rattle.std.proofs.lemmas.List.{get_or_append_left, get_or-append_right, get_or_past, get_or-replicate, length-replicate}
use Rattle.cisca.specs.declared.instruction.Instruction.{Instruction}
use Rattle.codec.specs.Encoding.{bytes}
use Rattle.program.specs.Programs.{program_bytes}
use Rattle.loading.specs.Layouts.{laid_out, listed_records, none_listed, room_of, starting}

abbrev pub Rows : Type 0
Rows = List (Option Instruction)

pub room_length : (i : Instruction) → length (room_of i) ≡ length (bytes i)
room_length i = let e = length-replicate {A = Option Instruction} (length (bytes i) - 1) None in omega arith

-- a layout is as long as the program's bytes
pub length_laid : (is : List Instruction) → length (laid_out is) ≡ length (program_bytes is)
length_laid [] = refl
length_laid (i ∷ is) = length-append (room_of i) (laid_out is) ∙ (λ j. room_length i j + length_laid is j) ∙ sym (length-append (bytes i) (program_bytes is))

blanks : (k : ℕ) (os : Rows) → listed_records (replicate k None ++ os) ≡ listed_records os
blanks zero os = refl
blanks (suc k) os = blanks k os

-- the records in the layout of a program are the program
pub records_laid : (is : List Instruction) → listed_records (laid_out is) ≡ is
records_laid [] = refl
records_laid (i ∷ is) = ap (λ (l : List Instruction). i ∷ l) (blanks (length (bytes i) - 1) (laid_out is) ∙ records_laid is)

-- The record at an offset.

RowAt : List Instruction → Type 0
RowAt is = (k : ℕ) (d : Option Instruction) → k < length (laid_out is) → get_or (laid_out is) k d ≡ starting is k

row_in : (i : Instruction) (is : List Instruction) (k : ℕ) (d : Option Instruction) → RowAt is → suc k < length (room_of i ++ laid_out is) → (t : Bool) → ltb (suc k) (length (bytes i)) ≡ t
    → get_or (room_of i ++ laid_out is) (suc k) d ≡ cond t None (starting is (suc k - length (bytes i)))
unfolding RowAt
row_in i is k d f h true e =
    let l : suc k < length (bytes i) = ltb-true _ _ e in
    get_or_append_left (room_of i) (laid_out is) d (suc k) (omega (arith, room_length i))
    ∙ get_or-replicate (length (bytes i) - 1) k None d (omega arith)
row_in i is k d f h false e =
    let l : length (bytes i) ≤ suc k = ltb-false _ _ e in
    get_or-append_right (room_of i) (laid_out is) (length (bytes i)) (suc k) d (room_length i) l
    ∙ f (suc k - length (bytes i)) d (omega (arith, h, length-append (room_of i) (laid_out is), room_length i))

row_at : (is : List Instruction) → RowAt is
unfolding RowAt
row_at [] k d h = absurd (omega arith)
row_at (i ∷ is) zero d h = refl
row_at (i ∷ is) (suc k) d h =
    let z : eqb (suc k) 0 ≡ false = grind (arith, nat_tests) in
    row_in i is k d (row_at is) h (ltb (suc k) (length (bytes i))) refl
    ∙ sym (ap (λ (t : Bool). cond t (Some i) (cond (ltb (suc k) (length (bytes i))) None (starting is (suc k - length (bytes i))))) z)

row_past : (is : List Instruction) (k : ℕ) → length (laid_out is) ≤ k → starting is k ≡ None
row_past [] k h = refl
row_past (i ∷ is) k h =
    let l = length-append (room_of i) (laid_out is) in
    let r = room_length i in
    let e = row_past is (k - length (bytes i)) (omega arith) in
    let a : length (bytes i) ≤ k = omega arith in
    let b : 1 ≤ k = omega arith in
    grind (arith, nat_tests)

starting_in : (is : List Instruction) (k : ℕ) → get_or (laid_out is) k None ≡ starting is k
unfolding RowAt
starting_in is k = elim (cases_Bool (ltb k (length (laid_out is)))) [
  | inl t ↦ row_at is k None (ltb-true _ _ t)
  | inr t ↦ let h = ltb-false k (length (laid_out is)) t in get_or_past (laid_out is) k None h ∙ sym (row_past is k h)
]

-- what stands in a layout at an offset is the record that starts there
pub starting_at : (os : Rows) (k : ℕ) → os ≡ laid_out (listed_records os) → get_or os k None ≡ starting (listed_records os) k
starting_at os k e = ap (λ (l : Rows). get_or l k None) e ∙ starting_in (listed_records os) k

no_layout : (is : List Instruction) → none_listed is ≡ true → laid_out is ≡ []
no_layout [] e = refl
no_layout (i ∷ is) e = cc

-- a layout with no record has no row
pub no_rows : (os : Rows) → os ≡ laid_out (listed_records os) → none_listed (listed_records os) ≡ true → os ≡ []
no_rows os e n = e ∙ no_layout (listed_records os) n
