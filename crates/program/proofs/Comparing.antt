-- Programs that begin one another. Assumes nothing.
use Rattle.std.proofs.Common.{◌≡◌, ℕ, ◌+◌, ◌<◌, Bool, false, List, [], ◌∷◌, ◌++◌, length, drop, Decides, sym, refl, ap, ◌∙◌, append_assoc, arith}
use Rattle.std.proofs.lemmas.Bool.{false≢true}
use Rattle.std.proofs.lemmas.List.{append_cancel_left}
use Rattle.std.proofs.lemmas.List.Prefix.{front_fits}
use Rattle.std.specs.List.{starts_with}
use Rattle.std.proofs.lemmas.Slice.Eq.{starts_is}
use Rattle.cisca.proofs.Same.{same_instruction}
use Rattle.cisca.specs.contracts.instruction.InstructionPartialEq.TheImpl as equal
use Rattle.program.proofs.Equal.{same_record}
use Rattle.cisca.specs.Making.{Parts, parts}
use Rattle.cisca.specs.declared.instruction.Instruction.{Instruction}
use Rattle.codec.proofs.Exact.{un_ok}
use Rattle.codec.proofs.Laws.{reads_back}
use Rattle.codec.proofs.Prefixes.{lies_front, plain}
use Rattle.codec.specs.Encoding.{bytes}
use Rattle.codec.specs.Laws.{Begins}
use Rattle.program.specs.Laws.{OneReading}
use Rattle.program.specs.Programs.{program_bytes}

-- one record at most has its bytes in front
pub same_front : (x y : Instruction) (l : List ℕ) → Begins (bytes x) l → Begins (bytes y) l → x ≡ y
same_front x y l b c =
    let both : ◌≡◌ {A = Parts × ℕ} (parts x, 0 + length (bytes x)) (parts y, 0 + length (bytes y)) =
    un_ok (sym (reads_back x (plain l) 0 (lies_front (bytes x) l b)) ∙ reads_back y (plain l) 0 (lies_front (bytes y) l c)) in
    same_instruction x y (ap (λ (t : Parts × ℕ). t.0) both)

-- The bytes of programs.

bytes_append : (xs ys : List Instruction) → program_bytes (xs ++ ys) ≡ program_bytes xs ++ program_bytes ys
bytes_append [] ys = refl
bytes_append (x ∷ xs) ys = ap (λ (l : List ℕ). bytes x ++ l) (bytes_append xs ys) ∙ sym (append_assoc (bytes x) (program_bytes xs) (program_bytes ys))

begins_from : (xs ys : List Instruction) → Begins (program_bytes xs) (program_bytes ys) → Begins xs ys
begins_from [] ys h = (ys, refl)
begins_from (x ∷ xs) [] h = let z = ap length h.1 in absurd (omega arith)
begins_from (x ∷ xs) (y ∷ ys) h =
    let e : bytes x ++ (program_bytes xs ++ h.0) ≡ bytes y ++ program_bytes ys = sym (append_assoc (bytes x) (program_bytes xs) h.0) ∙ h.1 in
    let same = same_front x y (bytes y ++ program_bytes ys) (program_bytes xs ++ h.0, e) (program_bytes ys, refl) in
    let rest : program_bytes xs ++ h.0 ≡ program_bytes ys = append_cancel_left (bytes y) _ _ (ap (λ (i : Instruction). bytes i ++ (program_bytes xs ++ h.0)) (sym same) ∙ e) in
    let k = begins_from xs ys (h.0, rest) in
    (k.0, λ i. same i ∷ k.1 i)

pub one_reading : (xs ys : List Instruction) → OneReading xs ys
one_reading xs ys = (λ h. (program_bytes h.0, sym (bytes_append xs h.0) ∙ ap program_bytes h.1), begins_from xs ys)

-- the test for a front decides
pub begins_decides : (xs ys : List Instruction) (r : Bool) → r ≡ starts_with equal.ghosts.eq ys xs → Decides r (Begins xs ys)
begins_decides xs ys r e = let h = starts_is same_record ys xs r e in ((λ t. (drop (length xs) ys, sym (h.0 t))), λ b. h.1 b.0 (sym b.1))

-- a longer list does not begin a shorter one
pub longer : (xs ys : List Instruction) → length ys < length xs → Decides false (Begins xs ys)
longer xs ys h = (λ e. absurd (false≢true e), λ b. absurd (omega (arith, front_fits ys xs b.0 (sym b.1))))
