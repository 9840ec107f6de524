-- The state that a machine stands for. Assumes nothing.
use Rattle.std.specs.Prelude.{ℕ, List, [], ◌∷◌, Some, None, Option}
use Rattle.cisca.specs.declared.instruction.Instruction.{Instruction}
use Rattle.journal.specs.Stories.{begun, story_of}
use Rattle.loading.specs.Listed.{program_of}
use Rattle.machine.specs.States.{State}
use Rattle.machine.specs.declared.machine.Machine.{Machine}
use Rattle.memory.specs.Cells.{Cell}
use Rattle.memory.specs.Layers.{addressed, sealed}
use Rattle.memory.specs.declared.address_space.AddressSpace.{AddressSpace}
use Rattle.memory.specs.declared.seal.Seal.{Seal}
use Rattle.ports.specs.Banks.{numbered}
use Rattle.ports.specs.declared.port_space.PortSpace.{PortSpace}
use Rattle.processor.specs.Processors.{blank}
use Rattle.processor.specs.Views.{view}
use Rattle.quantity.specs.Sums.{address}
use Rattle.quantity.specs.declared.Address.{Address}

-- the sealed memory, as far as addresses go
abbrev pub sealed_cells : {S : Type 0} → (S → ℕ → Cell) → Seal (AddressSpace S) → ℕ → Cell
sealed_cells cells s = sealed s.range.base.0 s.range.length (addressed (cells s.below.below))

-- the ports, as far as port numbers go
abbrev pub numbered_words : {P : Type 0} → (P → ℕ → Option ℕ) → PortSpace P → ℕ → Option ℕ
numbered_words words p = numbered (words p.below)

-- the program at an address, if it has an instruction
abbrev pub program_at : Address → List Instruction → Option (Address × List Instruction)
program_at a [] = None
program_at a (i ∷ is) = Some (a, i ∷ is)

abbrev pub state_of : {S P : Type 0} → (S → ℕ → Cell) → (P → ℕ → Option ℕ) → Machine S P → State
state_of cells words m = record { program = program_at m.base (program_of m.layout); story = story_of (sealed_cells cells) (numbered_words words) m.system }

-- a new machine: no program, all registers and bits 0, over what a store and a bank mean
abbrev pub fresh : (ℕ → Cell) → (ℕ → Option ℕ) → State
fresh m ws = record { program = None; story = begun (view (blank (address 0)) (addressed m) (numbered ws)) }
