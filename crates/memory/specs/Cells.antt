-- What an address of a memory holds. Assumes nothing.
use Rattle.std.specs.Prelude.{ℕ, ◌-◌, ◌%◌, ◌^◌, Bool, cond, ◌&&◌, List, length, Some, None, Option, ◌==◌, nat_le, nat_lt, slice_index}

-- nothing, a byte that may be written, or a byte that is only read
pub data Cell : Type 0 where
  nothing : Cell
  free : ℕ → Cell
  fixed : ℕ → Cell

-- what a reader sees of a cell: a byte, which is a number below 256, or nothing
abbrev pub shown : Cell → Option ℕ
shown nothing = None
shown (free b) = Some (b % 256)
shown (fixed b) = Some (b % 256)

-- a cell after the byte b was written to it
abbrev pub stored : Cell → ℕ → Cell
stored nothing b = nothing
stored (free _) b = free b
stored (fixed c) b = fixed c

-- a memory after the byte b was written at a
abbrev pub written : (ℕ → Cell) → ℕ → ℕ → ℕ → Cell
written m a b q = cond (q == a) (stored (m q) b) (m q)

-- is q one of the n addresses from `base` on, none above the last address?
abbrev pub within : ℕ → ℕ → ℕ → Bool
within base n q = nat_le base q && (nat_lt (q - base) n && nat_lt q (2 ^ 32))

-- the bytes xs from `base` on, each marked as `mark` says
abbrev pub chip : (ℕ → Cell) → ℕ → List ℕ → ℕ → Cell
chip mark base xs q = cond (within base (length xs) q) (mark (slice_index xs (q - base))) nothing
