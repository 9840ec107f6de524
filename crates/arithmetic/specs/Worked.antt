-- Worked results. Assumes nothing.
use Rattle.std.specs.Prelude.{◌≡◌, ℕ, Bool, true, false, List, [], ◌∷◌, Some, Option}
use Rattle.quantity.specs.declared.Number.{Number}
use Rattle.arithmetic.specs.Results.{combined, divided, number}
use Rattle.arithmetic.specs.declared.division.Division.{Division}
use Rattle.arithmetic.specs.declared.operation.BinaryOperation.{BinaryOperation}
use Rattle.arithmetic.specs.declared.operation.BinaryOperation.TheVariants.{Add, Sub}
use Rattle.arithmetic.specs.declared.status.Status.{Status}

-- two words and what they give, every status bit clear before
pub data Example : Type 0 where
  combining : BinaryOperation → ℕ → ℕ → Number × Status → Example
  dividing : ℕ → ℕ → Option Division × Status → Example

-- Z, S, C and V
abbrev bits : Bool → Bool → Bool → Bool → Status
bits z s c v = record { zero = z; sign = s; carry = c; overflow = v; enabled = false }

abbrev clear : Status
clear = bits false false false false

abbrev division : ℕ → ℕ → Division
division q r = record { quotient = number q; remainder = number r }

abbrev pub examples : List Example
examples =
    -- the highest number and 1
    combining Add 0x7fffffff 1 (number 0x80000000, bits false true false true)
    -- 1 minus 7
    ∷ combining Sub 1 7 (number 0xfffffffa, bits false true true false)
    -- -7 by 2: -3, and -1 remains
    ∷ dividing 0xfffffff9 2 (Some (division 0xfffffffd 0xffffffff), bits false true false false)
    ∷ []

-- the definitions give what the example says
abbrev pub Worked : Example → Type 0
Worked (combining k a b r) = combined k (number a) (number b) clear ≡ r
Worked (dividing a b r) = divided (number a) (number b) clear ≡ r
