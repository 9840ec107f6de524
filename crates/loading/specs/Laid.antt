-- Bytes written to a memory from an address on, and whether they may be. Assumes nothing.
use Rattle.std.specs.Prelude.{◌≡◌, ℕ, zero, suc, ◌+◌, ◌^◌, ◌<◌, ◌≤◌, false, List, [], ◌∷◌, map, length, Ok, Result, slice_index}
use Rattle.cisca.specs.Making.{parts}
use Rattle.cisca.specs.declared.instruction.Instruction.{Instruction}
use Rattle.codec.specs.Sources.{memory_span}
use Rattle.memory.specs.Access.{writing}
use Rattle.memory.specs.Cells.{Cell, fixed, written}
use Rattle.memory.specs.Layers.{covered, sealed}
use Rattle.memory.specs.declared.fault.StoreFault.{StoreFault}
use Rattle.program.specs.Programs.{program_bytes, whole}
use Rattle.quantity.specs.Sums.{later}
use Rattle.quantity.specs.declared.Address.{Address}
use Rattle.words.specs.Words.{and_then}

-- m after the bytes xs were written one by one from a on
abbrev pub laid : (ℕ → Cell) → Address → List ℕ → ℕ → Cell
laid m a [] = m
laid m a (x ∷ xs) = laid (written m a.0 x) (later a 1) xs

-- what a test of n bytes from a on answers: the first that may not be written refuses
abbrev pub vacancy : (ℕ → Cell) → Address → ℕ → Result (Unit {0}) StoreFault
vacancy m a zero = Ok tt
vacancy m a (suc n) = and_then (writing (m a.0) a) λ _. vacancy m (later a 1) n

-- the n bytes from a on may be written, and none stands above the last address
abbrev pub HasRoom : (ℕ → Cell) → Address → ℕ → Type 0
HasRoom m a n = (vacancy m a n ≡ Ok tt) × (a.0 + n ≤ 2 ^ 32)

-- the bytes xs are fixed in m from a on
abbrev pub Fixes : (ℕ → Cell) → Address → List ℕ → Type 0
Fixes m a xs = (k : ℕ) → k < length xs → m (a.0 + k) ≡ fixed (slice_index xs k)

-- the range of a program's bytes from a on, just by itself, reads as the program
abbrev pub ReadsAs : (ℕ → Cell) → Address → List Instruction → Type 0
ReadsAs m a is = whole (memory_span m a (length (program_bytes is))) (length (program_bytes is)) ≡ Ok (map parts is)

-- Of bytes laid into the memory m, which is then n.

-- no other address is changed, where the range does not wrap
abbrev pub OthersStay : (ℕ → Cell) → (ℕ → Cell) → Address → List ℕ → Type 0
OthersStay m n a xs = a.0 + length xs ≤ 2 ^ 32 → (q : ℕ) → covered a.0 (length xs) q ≡ false → n q ≡ m q

-- where there is room, the bytes are there, and fixed once they are sealed
abbrev pub HoldsFixed : (ℕ → Cell) → (ℕ → Cell) → Address → List ℕ → Type 0
HoldsFixed m n a xs = HasRoom m a (length xs) → Fixes (sealed a.0 (length xs) n) a xs

-- where there is room, the bytes of a program, once they are sealed, read as the program
abbrev pub ReadsAsListed : (ℕ → Cell) → (ℕ → Cell) → Address → List Instruction → Type 0
ReadsAsListed m n a is = HasRoom m a (length (program_bytes is)) → ReadsAs (sealed a.0 (length (program_bytes is)) n) a is
