-- The stack grows toward lower addresses; SP is the address of its top. Assumes nothing.
use Rattle.std.specs.Prelude.{Ok, Result}
use Rattle.arithmetic.specs.Results.{number}
use Rattle.actions.specs.declared.action.Place.{Place}
use Rattle.arithmetic.specs.StatusWord.{unpacked}
use Rattle.processor.specs.declared.fault.Cause.{Cause}
use Rattle.processor.specs.declared.state.Processor.{Processor}
use Rattle.quantity.specs.Sums.{address}
use Rattle.quantity.specs.declared.Address.{Address}
use Rattle.quantity.specs.declared.Number.{Number}
use Rattle.words.specs.Words.{and_then, word_reading}
use Rattle.execution.specs.Contexts.{Context, at_source, at_stack, kept, place_word, storing, turned}
use Rattle.processor.specs.Registers.{lowered, raised, stack_top, with_pc, with_status}

-- SP falls by 4, and the word is stored there
abbrev pub pushed : Number → Context → Result Context Cause
pushed n s = storing at_stack (stack_top (lowered s.processor)) n (turned (lowered s.processor) s)

-- the word at SP, and the processor with SP raised by 4
abbrev pub popped : Context → Result (Number × Processor) Cause
popped s = and_then (at_stack (word_reading s.memory (stack_top s.processor))) λ n. Ok (n, raised s.processor)

-- PC becomes the word's address
abbrev pub gone : Number → Context → Context
gone n s = turned (with_pc s.processor (address n.0)) s

-- PUSH: the operand is read with SP as it was
abbrev pub pushing : Place → Context → Result Context Cause
pushing d s = and_then (at_source (place_word d s)) λ n. pushed n s

-- POP: the destination is found with SP raised
abbrev pub popping : Place → Context → Result Context Cause
popping d s = and_then (popped s) λ r. kept d r.0 (turned r.1 s)

-- CALL: PC is pushed, which is the address of the next instruction by now
abbrev pub calling : Address → Context → Result Context Cause
calling a s = and_then (pushed (number s.processor.pc.0) s) λ t. Ok (turned (with_pc t.processor a) t)

-- RET: PC is popped
abbrev pub returning : Context → Result Context Cause
returning s = and_then (popped s) λ r. Ok (gone r.0 (turned r.1 s))

-- IRET: PC is popped, and then the status
abbrev pub resuming : Context → Result Context Cause
resuming s =
    and_then (popped s) λ r.
    and_then (popped (gone r.0 (turned r.1 s))) λ q. Ok (turned (with_status q.1 (unpacked q.0)) s)
