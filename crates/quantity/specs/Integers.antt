-- Words of 32 bits and the integers that they stand for. Assumes nothing.
use Rattle.std.specs.Prelude.{ℕ, ◌-◌, ◌^◌, Bool, ◌||◌, ℤ, pos, negsuc, int_le, int_lt, unsigned_abs}
use Rattle.std.proofs.Common.{to_z}
use Rattle.std.specs.Int.{int_rem_euclid, w32}

-- the integer that the word n stands for: n below 2^31, and n - 2^32 from there on
abbrev pub signed : ℕ → ℤ
signed n = to_z w32 n

-- the word of an integer: the integer modulo 2^32
abbrev pub word : ℤ → ℕ
word z = unsigned_abs (int_rem_euclid z (pos (2 ^ 32)))

-- no word stands for the integer: it is below -2^31, or 2^31 or above
abbrev pub outside : ℤ → Bool
outside z = int_lt z (negsuc (2 ^ 31 - 1)) || int_le (pos (2 ^ 31)) z
