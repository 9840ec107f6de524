-- A processor with its memory and its ports, and what an effect makes of them. Assumes nothing.
use Rattle.std.specs.Prelude.{ℕ, Some, None, Ok, Err, Option, Result}
use Rattle.memory.specs.Cells.{Cell}
use Rattle.ports.specs.Banks.{replaced}
use Rattle.processor.specs.declared.effect.Change.{Change}
use Rattle.processor.specs.declared.effect.Effect.{Effect}
use Rattle.processor.specs.declared.effect.PortWrite.{PortWrite}
use Rattle.processor.specs.declared.effect.StoreWrite.{StoreWrite}
use Rattle.processor.specs.declared.state.Processor.{Processor}
use Rattle.words.specs.Words.{word_written}

-- what a step sees: the processor, what each address holds, and the word at each port
pub record View : Type 0 where
  pub processor : Processor
  pub memory : ℕ → Cell
  pub ports : ℕ → Option ℕ

abbrev pub view : Processor → (ℕ → Cell) → (ℕ → Option ℕ) → View
view p m ws = record { processor = p; memory = m; ports = ws }

-- a memory with the word stored
abbrev pub stored : Option StoreWrite → (ℕ → Cell) → ℕ → Cell
stored None m = m
stored (Some w) m = word_written m w.at w.word.0

-- a bank with the word sent
abbrev pub sent : Option PortWrite → (ℕ → Option ℕ) → ℕ → Option ℕ
sent None ws = ws
sent (Some w) ws = replaced ws w.port.0 w.word.0

-- a memory with a change's words stored, the second after the first
abbrev pub changed : Change → (ℕ → Cell) → ℕ → Cell
changed c m = stored c.second (stored c.first m)

-- what an effect makes of a view
abbrev pub applied : Effect → View → View
applied e v = view e.change.processor (changed e.change v.memory) (sent e.output v.ports)

-- what a planned effect makes of a view, or the refusal
abbrev pub effected : {F : Type 0} → Result Effect F → View → Result View F
effected (Ok e) v = Ok (applied e v)
effected (Err f) v = Err f
