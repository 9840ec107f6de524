-- A processor and its memory while an instruction is done: its operands, read and written. Assumes nothing.
use Rattle.std.specs.Prelude.{◌≡◌, ℕ, Ok, Err, Result}
use Rattle.actions.specs.declared.action.MemoryOperand.{MemoryOperand}
use Rattle.actions.specs.declared.action.MemoryOperand.TheVariants.{Direct, Indexed, Indirect, Relative}
use Rattle.actions.specs.declared.action.Place.{Place}
use Rattle.actions.specs.declared.action.Place.TheVariants as place
use Rattle.actions.specs.declared.action.Source.{Source}
use Rattle.actions.specs.declared.action.Source.TheVariants as source
use Rattle.memory.specs.Cells.{Cell}
use Rattle.processor.specs.Faults.{by_destination, by_source, by_stack, by_vector}
use Rattle.processor.specs.Processors.{register_word}
use Rattle.processor.specs.Views.{changed}
use Rattle.processor.specs.declared.effect.Change.{Change}
use Rattle.processor.specs.declared.fault.Cause.{Cause}
use Rattle.processor.specs.declared.fault.Cause.TheVariants as cause
use Rattle.processor.specs.declared.state.Processor.{Processor}
use Rattle.quantity.specs.Sums.{address, displaced, later}
use Rattle.quantity.specs.declared.Address.{Address}
use Rattle.quantity.specs.declared.Number.{Number}
use Rattle.words.specs.Words.{and_then, word_reading, word_writing, word_written}
use Rattle.words.specs.declared.fault.WordFault.{WordFault}
use Rattle.processor.specs.Registers.{with_register}
use Rattle.execution.specs.declared.planner.Planner.{Planner}

pub record Context : Type 0 where
  pub processor : Processor
  pub memory : ℕ → Cell

abbrev pub context : Processor → (ℕ → Cell) → Context
context p m = record { processor = p; memory = m }

-- the context that a planner sees, where its store shows these cells
abbrev pub context_of : {S : Type 0} → (S → ℕ → Cell) → Planner S → Context
context_of cells p = context p.processor (cells p.store.now)

-- the context with another processor
abbrev pub turned : Processor → Context → Context
turned p s = context p s.memory

-- a fault becomes another by f
abbrev pub blamed : {X E F : Type 0} → (E → F) → Result X E → Result X F
blamed f (Ok x) = Ok x
blamed f (Err e) = Err (f e)

-- a word's answer, at each part of an instruction
abbrev pub at_source : {X : Type 0} → Result X WordFault → Result X Cause
at_source r = blamed (λ f. cause.Source (by_source f)) r

abbrev pub at_destination : {X : Type 0} → Result X WordFault → Result X Cause
at_destination r = blamed (λ f. cause.Destination (by_destination f)) r

abbrev pub at_stack : {X : Type 0} → Result X WordFault → Result X Cause
at_stack r = blamed (λ f. cause.Stack (by_stack f)) r

abbrev pub at_vector : {X : Type 0} → Result X WordFault → Result X Cause
at_vector r = blamed (λ f. cause.Vector (by_vector f)) r

-- the context with the word n stored at a, or the refusal that `at` makes of it
abbrev pub storing : (Result (Unit {0}) WordFault → Result (Unit {0}) Cause) → Address → Number → Context → Result Context Cause
storing at a n s = and_then (at (word_writing s.memory a)) λ _. Ok (context s.processor (word_written s.memory a n.0))

-- the effective address
abbrev pub effective : Processor → MemoryOperand → Address
effective p (Direct a) = a
effective p (Indirect r) = address (register_word p r).0
effective p (Relative r d) = displaced (address (register_word p r).0) d
effective p (Indexed a r) = later a (register_word p r).0

-- the word in a place
abbrev pub place_word : Place → Context → Result Number WordFault
place_word (place.Register r) s = Ok (register_word s.processor r)
place_word (place.Memory m) s = word_reading s.memory (effective s.processor m)

-- the word of a source
abbrev pub source_word : Source → Context → Result Number Cause
source_word (source.Immediate n) s = Ok n
source_word (source.Place d) s = at_source (place_word d s)

-- the word in a destination
abbrev pub destination_word : Place → Context → Result Number Cause
destination_word d s = at_destination (place_word d s)

-- the word n kept in the destination
abbrev pub kept : Place → Number → Context → Result Context Cause
kept (place.Register r) n s = Ok (turned (with_register s.processor r n) s)
kept (place.Memory m) n s = storing at_destination (effective s.processor m) n s

-- may the destination be written?
abbrev pub writable : Place → Context → Result (Unit {0}) Cause
writable (place.Register r) s = Ok tt
writable (place.Memory m) s = at_destination (word_writing s.memory (effective s.processor m))

-- what a change makes of a memory, as a context, or the refusal
abbrev pub outcome : Result Change Cause → (ℕ → Cell) → Result Context Cause
outcome (Ok c) m = Ok (context c.processor (changed c m))
outcome (Err f) m = Err f

-- the change found is what f makes of the context that the planner sees; a refusal is that of f
abbrev pub Plans : {S : Type 0} → (S → ℕ → Cell) → Planner S → Result Change Cause → (Context → Result Context Cause) → Type 0
Plans cells p r f = outcome r (cells p.store.now) ≡ f (context_of cells p)
