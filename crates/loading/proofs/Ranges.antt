-- The range that bytes were laid to, and the reading of it. Assumes nothing.
use Rattle.std.proofs.Common.{◌≡◌, ℕ, zero, suc, ◌+◌, ◌-◌, ◌%◌, ◌^◌, ◌<◌, ◌≤◌, Bool, true, false, cond, eqb, ltb, List, [], ◌∷◌, length, get_or, Some, Ok, Result, sym, refl, ap, ◌∙◌, arith}
use Rattle.std.proofs.lemmas.Bool.{cond-false, cond-true, eqb-false, eqb-true, lt-ltb, ltb-false, ltb-true}
use Rattle.std.proofs.lemmas.Bool.Decides.{nat_tests}
use Rattle.cisca.specs.declared.instruction.Instruction.{Instruction}
use Rattle.codec.proofs.Fronts.{AllSmall}
use Rattle.codec.specs.Laws.{Lies}
use Rattle.codec.specs.Sources.{Bytes, memory_span, span_ends}
use Rattle.memory.specs.Access.{writing}
use Rattle.memory.specs.Cells.{Cell, fixed, free, nothing, shown, stored, written}
use Rattle.memory.specs.Layers.{covered, sealed, shut}
use Rattle.memory.specs.declared.fault.StoreFault.{StoreFault}
use Rattle.program.proofs.Laws.{program_reads_back, programs_small}
use Rattle.program.specs.Programs.{program_bytes}
use Rattle.quantity.specs.Sums.{later}
use Rattle.quantity.specs.declared.Address.{Address}
use Rattle.words.specs.Words.{and_then}
use Rattle.loading.specs.Laid.{Fixes, HasRoom, HoldsFixed, OthersStay, ReadsAs, ReadsAsListed, laid, vacancy}

-- m with the bytes xs written from a on, all at once
abbrev pub block : (ℕ → Cell) → ℕ → List ℕ → ℕ → Cell
block m a xs q = cond (covered a (length xs) q) (stored (m q) (get_or xs (q - a) 0)) (m q)

-- a block behind the byte x, at another address
past_at : (t : Bool) (x : ℕ) (xs : List ℕ) (m : ℕ → Cell) (a q : ℕ) → (q ≡ a → ⊥) → ltb q a ≡ t → block m (a + 1) xs q ≡ block m a (x ∷ xs) q
past_at true x xs m a q ne e =
    let s : q < a = ltb-true q a e in
    let none : covered (a + 1) (length xs) q ≡ false = grind (arith, nat_tests) in
    let neither : covered a (suc (length xs)) q ≡ false = grind (arith, nat_tests) in
    cond-false _ _ _ none ∙ sym (cond-false _ _ _ neither)
past_at false x xs m a q ne e =
    let s : a ≤ q = ltb-false q a e in
    let z : q - a ≡ suc (q - (a + 1)) = omega arith in
    let same : covered (a + 1) (length xs) q ≡ covered a (suc (length xs)) q = grind (arith, nat_tests) in
    ap (λ (t : Bool). cond t (stored (m q) (get_or xs (q - (a + 1)) 0)) (m q)) same
    ∙ ap (λ (k : ℕ). cond (covered a (suc (length xs)) q) (stored (m q) (get_or (x ∷ xs) k 0)) (m q)) (sym z)

-- one byte, and a block behind it
more_at : (t : Bool) (x : ℕ) (xs : List ℕ) (m : ℕ → Cell) (a q : ℕ) → eqb q a ≡ t → block (written m a x) (a + 1) xs q ≡ block m a (x ∷ xs) q
more_at true x xs m a q e =
    let s : q ≡ a = eqb-true q a e in
    let z : q - a ≡ 0 = omega arith in
    let in_front : covered (a + 1) (length xs) q ≡ false = grind (arith, nat_tests) in
    let inside : covered a (length (x ∷ xs)) q ≡ true = grind (arith, nat_tests) in
    cond-false _ _ _ in_front ∙ cond-true _ _ _ e
    ∙ ap (λ (k : ℕ). stored (m q) (get_or (x ∷ xs) k 0)) (sym z) ∙ sym (cond-true _ _ _ inside)
more_at false x xs m a q e =
    ap (λ (c : Cell). cond (covered (a + 1) (length xs) q) (stored c (get_or xs (q - (a + 1)) 0)) c) (cond-false (eqb q a) (stored (m q) x) (m q) e)
    ∙ past_at (ltb q a) x xs m a q (eqb-false q a e) refl

block_more : (x : ℕ) (xs : List ℕ) (m : ℕ → Cell) (a q : ℕ) → block (written m a x) (a + 1) xs q ≡ block m a (x ∷ xs) q
block_more x xs m a q = more_at (eqb q a) x xs m a q refl

-- bytes laid one by one are a block
pub laid_block : (xs : List ℕ) (m : ℕ → Cell) (a : Address) (q : ℕ) → a.0 + length xs ≤ 2 ^ 32 → laid m a xs q ≡ block m a.0 xs q
laid_block [] m a q h = let none : covered a.0 0 q ≡ false = grind (arith, nat_tests) in sym (cond-false _ _ _ none)
laid_block (x ∷ []) m a q h =
    let none : covered (a.0 + 1) 0 q ≡ false = grind (arith, nat_tests) in
    sym (cond-false _ _ _ none) ∙ block_more x [] m a.0 q
laid_block (x ∷ (y ∷ ys)) m a q h =
    let n : (later a 1).0 ≡ a.0 + 1 = omega arith in
    laid_block (y ∷ ys) (written m a.0 x) (later a 1) q (omega arith)
    ∙ ap (λ (b : ℕ). block (written m a.0 x) b (y ∷ ys) q) n
    ∙ block_more x (y ∷ ys) m a.0 q

-- no other address is changed
pub laid_elsewhere : (xs : List ℕ) (m n : ℕ → Cell) (a : Address) → n ≡ laid m a xs → OthersStay m n a xs
laid_elsewhere xs m n a e l q o = ap (λ (f : ℕ → Cell). f q) e ∙ laid_block xs m a q l ∙ cond-false _ _ _ o

-- not even once the bytes are sealed
pub sealed_elsewhere : (xs : List ℕ) (m : ℕ → Cell) (a : Address) → a.0 + length xs ≤ 2 ^ 32 → (q : ℕ) → covered a.0 (length xs) q ≡ false → sealed a.0 (length xs) (laid m a xs) q ≡ m q
sealed_elsewhere xs m a l q e = cond-false _ _ _ e ∙ laid_elsewhere xs m (laid m a xs) a refl l q e

first_free : (x : Cell) (a : Address) (r : Result (Unit {0}) StoreFault) (b : ℕ) → and_then (writing x a) (λ _. r) ≡ Ok tt → (stored x b ≡ free b) × (r ≡ Ok tt)
first_free nothing a r b e = cc
first_free (free c) a r b e = (refl, e)
first_free (fixed c) a r b e = cc

-- what is vacant is free
free_at : (n : ℕ) (m : ℕ → Cell) (a : Address) → a.0 + n ≤ 2 ^ 32 → vacancy m a n ≡ Ok tt → (k b : ℕ) → k < n → stored (m (a.0 + k)) b ≡ free b
free_at zero m a l v k b h = absurd (omega arith)
free_at (suc n) m a l v zero b h =
    ap (λ (q : ℕ). stored (m q) b) (let z : a.0 + 0 ≡ a.0 = omega arith in z) ∙ (first_free (m a.0) a (vacancy m (later a 1) n) b v).0
free_at (suc n) m a l v (suc k) b h =
    let p : (later a 1).0 ≡ a.0 + 1 = omega arith in
    let z : a.0 + suc k ≡ (later a 1).0 + k = omega arith in
    ap (λ (q : ℕ). stored (m q) b) z ∙ free_at n m (later a 1) (omega arith) (first_free (m a.0) a (vacancy m (later a 1) n) b v).1 k b (omega arith)

inside : (a n k : ℕ) → k < n → covered a n (a + k) ≡ true
inside a n k h = grind (arith, nat_tests)

-- bytes laid where they may be are then there
pub laid_shows : (xs : List ℕ) (m : ℕ → Cell) (a : Address) → HasRoom m a (length xs) → (k : ℕ) → k < length xs → laid m a xs (a.0 + k) ≡ free (get_or xs k 0)
laid_shows xs m a r k h =
    laid_block xs m a (a.0 + k) r.1
    ∙ cond-true _ _ _ (inside a.0 (length xs) k h)
    ∙ ap (λ (j : ℕ). stored (m (a.0 + k)) (get_or xs j 0)) (let e : a.0 + k - a.0 ≡ k = omega arith in e)
    ∙ free_at (length xs) m a r.1 r.0 k (get_or xs k 0) h

-- and fixed once they are sealed
pub sealed_shows : (xs : List ℕ) (m n : ℕ → Cell) (a : Address) → n ≡ laid m a xs → HoldsFixed m n a xs
sealed_shows xs m n a e r k h = cond-true _ _ _ (inside a.0 (length xs) k h) ∙ ap shut (ap (λ (f : ℕ → Cell). f (a.0 + k)) e ∙ laid_shows xs m a r k h)

-- Reading.

small_at : (xs : List ℕ) → AllSmall xs → (k : ℕ) → k < length xs → get_or xs k 0 < 256
small_at [] s k h = absurd (omega arith)
small_at (x ∷ xs) s zero h = s.0
small_at (x ∷ xs) s (suc k) h = small_at xs s.1 k (omega arith)

lies_from : (s : Bytes) (ys : List ℕ) (p : ℕ) → ((k : ℕ) → k < length ys → s (p + k) ≡ Some (get_or ys k 0)) → Lies s p ys
lies_from s [] p f = tt
lies_from s (y ∷ ys) p f = (
  ap s (let e : p ≡ p + 0 = omega arith in e) ∙ f 0 (omega arith),
  lies_from s ys (p + 1) (λ k h. ap s (let e : p + 1 + k ≡ p + suc k = omega arith in e) ∙ f (suc k) (omega arith)),
)

module _ (xs : List ℕ) (m : ℕ → Cell) (a : Address) (l : a.0 + length xs ≤ 2 ^ 32) (small : AllSmall xs) (f : Fixes m a xs) where
  span_at : (k : ℕ) → k < length xs → memory_span m a (length xs) (0 + k) ≡ Some (get_or xs k 0)
  span_at k h =
      let z : 0 + k ≡ k = omega arith in
      let n : (later a k).0 ≡ a.0 + k = omega arith in
      let b : get_or xs k 0 % 256 ≡ get_or xs k 0 = let s = small_at xs small k h in omega arith in
      ap (memory_span m a (length xs)) z
      ∙ cond-true _ _ _ (lt-ltb k (length xs) h)
      ∙ ap (λ (q : ℕ). shown (m q)) n
      ∙ ap shown (f k h)
      ∙ ap (λ (c : ℕ). Some c) b

  range_lies : Lies (memory_span m a (length xs)) 0 xs
  range_lies = lies_from (memory_span m a (length xs)) xs 0 span_at

-- a range with the fixed bytes of a program reads as the program
pub range_reads : (is : List Instruction) (m : ℕ → Cell) (a : Address) → a.0 + length (program_bytes is) ≤ 2 ^ 32 → Fixes m a (program_bytes is) → ReadsAs m a is
range_reads is m a l f =
    let n = length (program_bytes is) in
    program_reads_back (memory_span m a n) n (span_ends m a n) is
    (range_lies (program_bytes is) m a l (programs_small is) f, span_ends m a n n (omega arith))

-- so does the range of a program that was laid and sealed
pub sealed_reads : (is : List Instruction) (m n : ℕ → Cell) (a : Address) → n ≡ laid m a (program_bytes is) → ReadsAsListed m n a is
sealed_reads is m n a e r = range_reads is (sealed a.0 (length (program_bytes is)) n) a r.1 (sealed_shows (program_bytes is) m n a e r)
