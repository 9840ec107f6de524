-- After a comparison each condition holds exactly where the numbers compare so. Assumes nothing.
use Rattle.std.proofs.Common.{◌≡◌, ℕ, ◌^◌, ◌<◌, not, ◌||◌, eqb, leb, ◌-ℤ◌, ap, ◌∙◌, arith}
use lib.Signed.{le_z, lt_z}
use Rattle.std.proofs.lemmas.Bool.Decides.{nat_tests}
use Rattle.actions.specs.declared.action.Condition.TheVariants.{Equal, Greater, GreaterOrEqual, Less, LessOrEqual, NotEqual}
use Rattle.arithmetic.specs.Results.{differ}
use Rattle.quantity.specs.Integers.{outside, signed, word}
use Rattle.stepping.specs.Laws.{ConditionsCompare}

less : (a b : ℕ) → a < 2 ^ 32 → b < 2 ^ 32 → differ (leb (2 ^ 31) (word (signed a -ℤ signed b))) (outside (signed a -ℤ signed b)) ≡ lt_z (signed a) (signed b)
less a b p q = grind (arith, nat_tests)

equal : (a b : ℕ) → a < 2 ^ 32 → b < 2 ^ 32 → eqb (word (signed a -ℤ signed b)) 0 ≡ eqb a b
equal a b p q = grind (arith, nat_tests)

less_or_equal : (a b : ℕ) → a < 2 ^ 32 → b < 2 ^ 32 → (eqb a b || lt_z (signed a) (signed b)) ≡ le_z (signed a) (signed b)
less_or_equal a b p q = grind (arith, nat_tests)

greater : (a b : ℕ) → not (le_z (signed a) (signed b)) ≡ lt_z (signed b) (signed a)
greater a b = grind (arith, nat_tests)

greater_or_equal : (a b : ℕ) → not (lt_z (signed a) (signed b)) ≡ le_z (signed b) (signed a)
greater_or_equal a b = grind (arith, nat_tests)

at_most : (a b : ℕ) → a < 2 ^ 32 → b < 2 ^ 32 → (eqb (word (signed a -ℤ signed b)) 0 || differ (leb (2 ^ 31) (word (signed a -ℤ signed b))) (outside (signed a -ℤ signed b))) ≡ le_z (signed a) (signed b)
at_most a b p q = (λ i. equal a b p q i || less a b p q i) ∙ less_or_equal a b p q

pub conditions_compare : ConditionsCompare
conditions_compare Equal a b s p q = equal a b p q
conditions_compare NotEqual a b s p q = ap not (equal a b p q)
conditions_compare Less a b s p q = less a b p q
conditions_compare LessOrEqual a b s p q = at_most a b p q
conditions_compare Greater a b s p q = ap not (at_most a b p q) ∙ greater a b
conditions_compare GreaterOrEqual a b s p q = ap not (less a b p q) ∙ greater_or_equal a b
