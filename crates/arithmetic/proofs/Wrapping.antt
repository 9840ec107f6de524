-- The low word of a product is the word of the exact signed product. Assumes nothing.
use Rattle.std.proofs.Common.{◌≡◌, ℕ, ◌*◌, ◌%◌, ◌^◌, ◌<◌, ℤ, pos, negsuc, ◌*ℤ◌, sym, ap, ◌∙◌, arith, w32, of_z}
use Rattle.std.proofs.lemmas.Nat.{mod_below}
use Rattle.std.proofs.lemmas.Int.{of_z-to_z, wrapping_mul-bits}
use Rattle.std.specs.Int.{int_wrap}
use Rattle.quantity.specs.Integers.{signed, word}

word_below : (z : ℤ) → word z < 2 ^ 32
word_below (pos a) = mod_below a (2 ^ 32) (omega arith)
word_below (negsuc a) = omega arith

-- two words that stand for one integer are one
same : (m n : ℕ) → m < 2 ^ 32 → n < 2 ^ 32 → signed m ≡ signed n → m ≡ n
same m n p q e = sym (of_z-to_z w32 m p) ∙ ap (of_z w32) e ∙ of_z-to_z w32 n q

pub product_word : (a b : ℕ) → a < 2 ^ 32 → b < 2 ^ 32 → (a * b) % 2 ^ 32 ≡ word (signed a *ℤ signed b)
unfolding int_wrap
product_word a b p q =
    same _ _ (mod_below (a * b) (2 ^ 32) (omega arith)) (word_below (signed a *ℤ signed b)) (wrapping_mul-bits w32 a b p q)
