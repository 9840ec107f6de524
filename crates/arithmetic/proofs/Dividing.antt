-- The quotient, the remainder and the words that stand for them. Assumes nothing.
use Rattle.std.proofs.Common.{◌≡◌, ℕ, zero, suc, ◌+◌, ◌-◌, ◌*◌, ◌/◌, ◌%◌, ◌^◌, ◌<◌, ◌≤◌, Bool, true, false, ◌&&◌, eqb, rules, ℤ, pos, negsuc, ◌+ℤ◌, ◌*ℤ◌, neg_ℤ, nat_abs, Some, sym, refl, ap, ◌∙◌, subst, zero-mul, arith}
use lib.Signed.{le_z, quot_z, rem_z}
use Rattle.std.specs.Bool.{FalseIff}
use Rattle.std.specs.Int.{NotMinOverMinusOne, w32}
use Rattle.std.proofs.lemmas.Nat.{div-add-mod', mod_below}
use Rattle.std.proofs.lemmas.Int.{ints}
use Rattle.std.proofs.lemmas.Bool.Decides.{nat_tests}
use Rattle.quantity.specs.Integers.{outside, signed, word}
use Rattle.arithmetic.specs.Laws.{Parts, TakesSign}
use Rattle.arithmetic.specs.Results.{number}

neg_by_neg : (q b : ℕ) → neg_ℤ (pos q) *ℤ negsuc b ≡ pos (q * suc b)
neg_by_neg zero b = simp zero-mul
neg_by_neg (suc n) b = refl

neg_by_pos : (q b : ℕ) → neg_ℤ (pos q) *ℤ pos b ≡ neg_ℤ (pos (q * b))
neg_by_pos zero b = simp zero-mul
neg_by_pos (suc n) b = refl

neg_sum : (m r a : ℕ) → m + r ≡ suc a → neg_ℤ (pos m) +ℤ neg_ℤ (pos r) ≡ negsuc a
neg_sum m r a e = omega (arith, ints)

-- the quotient times the divisor, and the remainder, make the dividend
makes_dividend : (x y : ℤ) → quot_z x y *ℤ y +ℤ rem_z x y ≡ x
makes_dividend (pos a) (pos b) = ap pos (div-add-mod' a b)
makes_dividend (pos a) (negsuc b) = ap (λ z. z +ℤ pos (a % suc b)) (neg_by_neg (a / suc b) b) ∙ ap pos (div-add-mod' a (suc b))
makes_dividend (negsuc a) (pos b) =
    ap (λ z. z +ℤ neg_ℤ (pos (suc a % b))) (neg_by_pos (suc a / b) b) ∙ neg_sum (suc a / b * b) (suc a % b) a (div-add-mod' (suc a) b)
makes_dividend (negsuc a) (negsuc b) = neg_sum (suc a / suc b * suc b) (suc a % suc b) a (div-add-mod' (suc a) (suc b))

none_below : (n : ℕ) → le_z (pos 0) (pos n) ≡ true
none_below n = grind (arith, nat_tests)

below_none : (n : ℕ) → le_z (neg_ℤ (pos n)) (pos 0) ≡ true
below_none zero = refl
below_none (suc n) = refl

-- the remainder is 0 or has the dividend's sign
takes_sign : (x y : ℤ) → TakesSign x (rem_z x y)
takes_sign (pos a) (pos b) = none_below (a % b)
takes_sign (pos a) (negsuc b) = none_below (a % suc b)
takes_sign (negsuc a) (pos b) = below_none (suc a % b)
takes_sign (negsuc a) (negsuc b) = below_none (suc a % suc b)

size_negated : (n : ℕ) → nat_abs (neg_ℤ (pos n)) ≡ n
size_negated zero = refl
size_negated (suc n) = refl

-- the remainder is smaller than the divisor
smaller : (x y : ℤ) → 0 < nat_abs y → nat_abs (rem_z x y) < nat_abs y
smaller (pos a) (pos b) h = mod_below a b h
smaller (pos a) (negsuc b) h = mod_below a (suc b) h
smaller (negsuc a) (pos b) h = subst (λ n. n < b) (sym (size_negated (suc a % b))) (mod_below (suc a) b h)
smaller (negsuc a) (negsuc b) h = subst (λ n. n < suc b) (sym (size_negated (suc a % suc b))) (mod_below (suc a) (suc b) h)

-- the word of an integer that fits stands for it
stands : (z : ℤ) → outside z ≡ false → signed (word z) ≡ z
stands (pos n) h = grind (arith, nat_tests)
stands (negsuc n) h = grind (arith, nat_tests)

size_above : (n : ℕ) → 0 < n → n < 2 ^ 32 → 0 < nat_abs (signed n)
size_above n h k = grind (arith, nat_tests)

size_bound : (n : ℕ) → n < 2 ^ 32 → nat_abs (signed n) ≤ 2 ^ 31
size_bound n k = grind (arith, nat_tests)

small_fits : (z : ℤ) → nat_abs z < 2 ^ 31 → outside z ≡ false
small_fits (pos n) h = grind (arith, nat_tests)
small_fits (negsuc n) h = grind (arith, nat_tests)

remainder_stands : (x : ℤ) (b : ℕ) → 0 < b → b < 2 ^ 32 → signed (word (rem_z x (signed b))) ≡ rem_z x (signed b)
remainder_stands x b h k =
    let small : nat_abs (rem_z x (signed b)) < nat_abs (signed b) = smaller x (signed b) (size_above b h k) in
    let bound : nat_abs (signed b) ≤ 2 ^ 31 = size_bound b k in
    stands (rem_z x (signed b)) (small_fits (rem_z x (signed b)) (omega arith))

-- the words of the quotient and the remainder, with the bit V
pub parts : (x : ℤ) (b q r : ℕ) (v : Bool) → 0 < b → b < 2 ^ 32 → q ≡ word (quot_z x (signed b)) → r ≡ word (rem_z x (signed b)) → v ≡ outside (quot_z x (signed b))
    → Parts x (signed b) v (Some (record { quotient = number q; remainder = number r }))
parts x b q r v h k e f g =
    let rest : signed r ≡ rem_z x (signed b) = ap signed f ∙ remainder_stands x b h k in (
      subst (TakesSign x) (sym rest) (takes_sign x (signed b)),
      subst (λ z. nat_abs z < nat_abs (signed b)) (sym rest) (smaller x (signed b) (size_above b h k)),
      λ clear.
          let whole : signed q ≡ quot_z x (signed b) = ap signed e ∙ stands (quot_z x (signed b)) (sym g ∙ clear) in
          (λ i. whole i *ℤ signed b +ℤ rest i) ∙ makes_dividend x (signed b),
    )

-- no word stands for the quotient just where the lowest number is divided by -1
unfit : (a b : ℕ) → 0 < b → a < 2 ^ 32 → b < 2 ^ 32 → (eqb a (2 ^ 31) && eqb b (2 ^ 32 - 1)) ≡ outside (quot_z (signed a) (signed b))
unfit a b p q r = search rules

told : (a b : ℕ) (v : Bool) → 0 < b → a < 2 ^ 32 → b < 2 ^ 32 → FalseIff v (NotMinOverMinusOne w32 (signed a) (signed b)) → v ≡ (eqb a (2 ^ 31) && eqb b (2 ^ 32 - 1))
told a b true p q r h = grind (arith, nat_tests)
told a b false p q r h = grind (arith, nat_tests)

-- the quotient does not fit a word just where the signed division says that it overflows
pub overflows : (a b : ℕ) (v : Bool) → 0 < b → a < 2 ^ 32 → b < 2 ^ 32 → FalseIff v (NotMinOverMinusOne w32 (signed a) (signed b)) → v ≡ outside (quot_z (signed a) (signed b))
overflows a b v p q r h = told a b v p q r h ∙ unfit a b p q r
