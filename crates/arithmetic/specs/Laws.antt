-- Laws that tie the operations to one another and to the integers. Assumes nothing.
use Rattle.std.specs.Prelude.{◌≡◌, ℕ, ◌-◌, ◌%◌, ◌^◌, ◌<◌, Bool, true, false, not, ℤ, pos, negsuc, ◌+ℤ◌, ◌*ℤ◌, Some, None, Option, int_le, unsigned_abs}
use Rattle.quantity.specs.Integers.{signed}
use Rattle.quantity.specs.declared.Number.{Number}
use Rattle.arithmetic.specs.Results.{combined, number}
use Rattle.arithmetic.specs.declared.division.Division.{Division}
use Rattle.arithmetic.specs.declared.operation.BinaryOperation.TheVariants.{Add, Sub}
use Rattle.arithmetic.specs.declared.status.Status.{Status}

-- the word that makes 0 with the word n
abbrev pub complement : ℕ → ℕ
complement n = (2 ^ 32 - n) % 2 ^ 32

-- the results d of SUB by b and e of ADD of b's complement: the same word, Z and S, and the borrow is the carry
-- turned, except by 0, where neither is
abbrev pub Agree : ℕ → Number × Status → Number × Status → Type 0
Agree b d e =
    (d.0 ≡ e.0)
    × (d.1.zero ≡ e.1.zero)
    × (d.1.sign ≡ e.1.sign)
    × (0 < b → d.1.carry ≡ not e.1.carry)
    × (b ≡ 0 → (d.1.carry ≡ false) × (e.1.carry ≡ false))

-- subtraction is the addition of the complement
abbrev pub SubtractionAddsComplement : Type 0
SubtractionAddsComplement =
    (a b : ℕ) (s : Status) → a < 2 ^ 32 → b < 2 ^ 32
    → Agree b (combined Sub (number a) (number b) s) (combined Add (number a) (number (complement b)) s)

-- the remainder r of the dividend x is 0 or has its sign
abbrev pub TakesSign : ℤ → ℤ → Type 0
TakesSign (pos n) r = int_le (pos 0) r ≡ true
TakesSign (negsuc n) r = int_le r (pos 0) ≡ true

-- x divided by y, with the bit V: none only by 0; else the remainder has the dividend's sign and is smaller than the
-- divisor, and with V clear the quotient times the divisor, and the remainder, make the dividend
abbrev pub Parts : ℤ → ℤ → Bool → Option Division → Type 0
Parts x y v None = y ≡ pos 0
Parts x y v (Some d) =
    TakesSign x (signed d.remainder.0)
    × (unsigned_abs (signed d.remainder.0) < unsigned_abs y)
    × (v ≡ false → signed d.quotient.0 *ℤ y +ℤ signed d.remainder.0 ≡ x)

-- the answer r of a division of a by b
abbrev pub Divides : Number → Number → Option Division × Status → Type 0
Divides a b r = Parts (signed a.0) (signed b.0) r.1.overflow r.0
