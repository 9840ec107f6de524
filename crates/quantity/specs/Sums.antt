-- Sums of addresses, which wrap at 2^32. Assumes nothing.
use Rattle.std.specs.Prelude.{ℕ, ◌+◌, ◌%◌, ◌^◌, pos, ◌+ℤ◌}
use Rattle.quantity.specs.declared.Address.{Address}
use Rattle.quantity.specs.declared.Displacement.{Displacement}
use Rattle.quantity.specs.Integers.{word}

-- the address of this number
abbrev pub address : ℕ → Address
address n = record { 0 = n }

-- the address k bytes further on
abbrev pub later : Address → ℕ → Address
later a k = address ((a.0 + k) % 2 ^ 32)

-- the address moved by a signed displacement
abbrev pub displaced : Address → Displacement → Address
displaced a d = address (word (pos a.0 +ℤ d.0))
