-- Effects by what they change. Assumes nothing.
use Rattle.std.specs.Prelude.{Some, None}
use Rattle.processor.specs.declared.effect.Change.{Change}
use Rattle.processor.specs.declared.effect.Effect.{Effect}
use Rattle.processor.specs.declared.effect.StoreWrite.{StoreWrite}
use Rattle.processor.specs.declared.state.Processor.{Processor}

-- the processor changes alone
abbrev pub turning : Processor → Change
turning p = record { processor = p; first = None; second = None }

-- the processor changes, and a word is stored
abbrev pub storing : Processor → StoreWrite → Change
storing p w = record { processor = p; first = Some w; second = None }

-- no word goes to a port
abbrev pub silent : Change → Effect
silent c = record { change = c; output = None }
