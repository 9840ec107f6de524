-- The status word: Z, S, C, V and IE in bits 0 to 4, and zeros above. Assumes nothing.
use Rattle.std.specs.Prelude.{◌≡◌, ℕ, ◌+◌, ◌/◌, ◌%◌, ◌^◌, Bool, cond, ◌==◌}
use Rattle.quantity.specs.declared.Number.{Number}
use Rattle.arithmetic.specs.declared.status.Status.{Status}

-- the weight n where the bit is set, else 0
abbrev pub weighed : Bool → ℕ → ℕ
weighed b n = cond b n 0

-- the word of a status
abbrev pub packed : Status → Number
packed s =
    record { 0 = weighed s.zero 1 + weighed s.sign 2 + weighed s.carry 4 + weighed s.overflow 8 + weighed s.enabled 16 }

-- bit i of the word is set
abbrev pub bit_of : Number → ℕ → Bool
bit_of w i = w.0 / 2 ^ i % 2 == 1

-- the status of a word; the bits above bit 4 are ignored
abbrev pub unpacked : Number → Status
unpacked w = record { zero = bit_of w 0; sign = bit_of w 1; carry = bit_of w 2; overflow = bit_of w 3; enabled = bit_of w 4 }

-- the word n of the status s, of which s is the status again
pub record Packs (s : Status) (n : Number) : Type 0 where
  pub word : n ≡ packed s
  pub restores : unpacked n ≡ s

-- the status s of the word n, whose word has the low five bits of n
pub record Unpacks (n : Number) (s : Status) : Type 0 where
  pub status : s ≡ unpacked n
  pub keeps : (packed s).0 ≡ n.0 % 32
