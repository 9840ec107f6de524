-- The result and the status of each operation, from the integers that its words stand for. Assumes nothing.
use Rattle.std.specs.Prelude.{ℕ, ◌+◌, ◌-◌, ◌*◌, ◌%◌, ◌^◌, min, Bool, true, false, cond, ℤ, ◌+ℤ◌, ◌-ℤ◌, ◌*ℤ◌, Some, None, Option, ◌==◌, bit_and, bit_or, bit_xor, int_div, int_rem, nat_le, nat_lt}
use Rattle.std.specs.Int.Signed.{shr_z}
use Rattle.quantity.specs.Integers.{outside, signed, word}
use Rattle.quantity.specs.declared.Number.{Number}
use Rattle.arithmetic.specs.declared.division.Division.{Division}
use Rattle.arithmetic.specs.declared.operation.BinaryOperation.{BinaryOperation}
use Rattle.arithmetic.specs.declared.operation.BinaryOperation.TheVariants.{Add, And, Mul, Or, Sal, Sar, Sub, Xor}
use Rattle.arithmetic.specs.declared.operation.Comparison.{Comparison}
use Rattle.arithmetic.specs.declared.operation.Comparison.TheVariants.{Cmp, Test}
use Rattle.arithmetic.specs.declared.operation.UnaryOperation.{UnaryOperation}
use Rattle.arithmetic.specs.declared.operation.UnaryOperation.TheVariants.{Dec, Inc, Neg, Not}
use Rattle.arithmetic.specs.declared.status.Status.{Status}

-- the number of the word n
abbrev pub number : ℕ → Number
number n = record { 0 = n }

-- Z and S follow the word n, C and V are given, and IE stays
abbrev pub following : Status → ℕ → Bool → Bool → Status
following s n c v = record { zero = (n == 0); sign = nat_le (2 ^ 31) n; carry = c; overflow = v; enabled = s.enabled }

-- the word of the exact integer z, V where no word stands for z, and C as given
abbrev pub exact : Status → ℤ → Bool → Number × Status
exact s z c = (number (word z), following s (word z) c (outside z))

-- ADD: C is the carry out of bit 31
abbrev pub added : Number → Number → Status → Number × Status
added a b s = exact s (signed a.0 +ℤ signed b.0) (nat_le (2 ^ 32) (a.0 + b.0))

-- SUB: C is the borrow
abbrev pub subtracted : Number → Number → Status → Number × Status
subtracted a b s = exact s (signed a.0 -ℤ signed b.0) (nat_lt a.0 b.0)

-- MUL: C stays
abbrev pub multiplied : Number → Number → Status → Number × Status
multiplied a b s = exact s (signed a.0 *ℤ signed b.0) s.carry

-- AND, OR and XOR: C and V are cleared
abbrev pub logical : Status → ℕ → Number × Status
logical s n = (number n, following s n false false)

-- the word a times 2^n, and 0 from 32 on
abbrev pub shifted_left : ℕ → ℕ → ℕ
shifted_left a n = cond (nat_lt n 32) ((a * 2 ^ n) % 2 ^ 32) 0

-- one of the two holds and the other does not
abbrev pub differ : Bool → Bool → Bool
differ true b = cond b false true
differ false b = b

-- SAL by the unsigned count n: V where bit 31 is not as before; C stays
abbrev pub left_shifted : Number → Number → Status → Number × Status
left_shifted a n s = (
  number (shifted_left a.0 n.0),
  following s (shifted_left a.0 n.0) s.carry (differ (nat_le (2 ^ 31) a.0) (nat_le (2 ^ 31) (shifted_left a.0 n.0))),
)

-- the integer of a over 2^n, rounded down, and from 32 on as at 31: copies of the sign
abbrev pub shifted_right : ℕ → ℕ → ℕ
shifted_right a n = word (shr_z (signed a) (2 ^ min n 31))

-- SAR by the unsigned count n: V is cleared; C stays
abbrev pub right_shifted : Number → Number → Status → Number × Status
right_shifted a n s = (number (shifted_right a.0 n.0), following s (shifted_right a.0 n.0) s.carry false)

-- NOT: every bit of the word is turned, and the status stays
abbrev pub inverted : Number → Status → Number × Status
inverted a s = (number (2 ^ 32 - 1 - a.0), s)

-- an operation on the destination's word a and the source's b
abbrev pub combined : BinaryOperation → Number → Number → Status → Number × Status
combined Add a b s = added a b s
combined Sub a b s = subtracted a b s
combined Mul a b s = multiplied a b s
combined And a b s = logical s (bit_and a.0 b.0)
combined Or a b s = logical s (bit_or a.0 b.0)
combined Xor a b s = logical s (bit_xor a.0 b.0)
combined Sal a b s = left_shifted a b s
combined Sar a b s = right_shifted a b s

-- CMP leaves the status of SUB, and TEST that of AND
abbrev pub compared : Comparison → Number → Number → Status → Status
compared Cmp a b s = (combined Sub a b s).1
compared Test a b s = (combined And a b s).1

-- INC is plus 1, DEC minus 1, and NEG is 0 minus the word
abbrev pub altered : UnaryOperation → Number → Status → Number × Status
altered Inc a s = added a (number 1) s
altered Dec a s = subtracted a (number 1) s
altered Neg a s = subtracted (number 0) a s
altered Not a s = inverted a s

-- the exact quotient, rounded toward zero
abbrev pub quotient_of : Number → Number → ℤ
quotient_of a b = int_div (signed a.0) (signed b.0)

-- what the quotient times the divisor leaves of the dividend
abbrev pub remainder_of : Number → Number → ℤ
remainder_of a b = int_rem (signed a.0) (signed b.0)

-- DIV by 0: C is set, and the other bits stay
abbrev pub undivided : Status → Status
undivided s = record { zero = s.zero; sign = s.sign; carry = true; overflow = s.overflow; enabled = s.enabled }

-- DIV: C is cleared, and V is set where no word stands for the quotient
abbrev pub divided : Number → Number → Status → Option Division × Status
divided a b s =
    cond (b.0 == 0)
    (None, undivided s) (
      Some (record { quotient = number (word (quotient_of a b)); remainder = number (word (remainder_of a b)) }),
      following s (word (quotient_of a b)) false (outside (quotient_of a b)),
    )
