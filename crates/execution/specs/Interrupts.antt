-- INT and the delivery of an interrupt. Assumes nothing.
use Rattle.std.specs.Prelude.{ℕ, ◌*◌, None, Ok, Result}
use Rattle.arithmetic.specs.Results.{number}
use Rattle.arithmetic.specs.StatusWord.{packed}
use Rattle.processor.specs.Interrupts.{indexing}
use Rattle.processor.specs.declared.fault.Cause.{Cause}
use Rattle.processor.specs.declared.fault.Cause.TheVariants as cause
use Rattle.processor.specs.declared.state.Processor.{Processor}
use Rattle.quantity.specs.Sums.{address}
use Rattle.quantity.specs.declared.Number.{Number}
use Rattle.words.specs.Words.{and_then, word_reading}
use Rattle.execution.specs.Contexts.{Context, at_vector, blamed, turned}
use Rattle.execution.specs.Stack.{gone, pushed}

-- the status word is pushed, and then PC; PC becomes the word that is then at 4 times the index
abbrev pub interrupting : ℕ → Context → Result Context Cause
interrupting i s =
    and_then (pushed (packed s.processor.status) s) λ t.
    and_then (pushed (number t.processor.pc.0) t) λ u.
    and_then (at_vector (word_reading u.memory (address (4 * i)))) λ n. Ok (gone n u)

-- INT: an index above 63 is refused before the stack is touched
abbrev pub serving : Number → Context → Result Context Cause
serving n s = and_then (blamed cause.Index (indexing n.0)) λ i. interrupting i.value s

-- nothing waits
abbrev pub quiet : Processor → Processor
quiet p = record { registers = p.registers; pc = p.pc; status = p.status; waiting = None }

-- a delivery: nothing waits any more, and the rest is as for INT
abbrev pub delivering : ℕ → Context → Result Context Cause
delivering i s = interrupting i (turned (quiet s.processor) s)
