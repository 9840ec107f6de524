-- What each call but load and step answers, and what it leaves. Assumes nothing.
use Rattle.std.specs.Prelude.{ℕ, not, length, is_some, Some, None, Ok, Err, Option, Result}
use Rattle.execution.specs.Contexts.{blamed}
use Rattle.journal.specs.Stories.{back_answer, back_story, forgotten}
use Rattle.machine.specs.States.{Said, State, granted, loaded, moved, present, ready, upon, with_story}
use Rattle.machine.specs.declared.fault.CallFault.{CallFault}
use Rattle.machine.specs.declared.fault.CallFault.TheVariants as fault
use Rattle.machine.specs.declared.machine.look.Look.{Look}
use Rattle.machine.specs.declared.machine.look.Look.TheVariants as look
use Rattle.machine.specs.declared.machine.look.Shown.{Shown}
use Rattle.machine.specs.declared.machine.look.Shown.TheVariants as shown
use Rattle.memory.specs.Access.{reading}
use Rattle.ports.specs.Banks.{getting, replaced, setting}
use Rattle.processor.specs.Interrupts.{index_of, indexing}
use Rattle.processor.specs.Processors.{register_word}
use Rattle.processor.specs.Views.{View, view}
use Rattle.processor.specs.declared.interrupt.InterruptIndex.{InterruptIndex}
use Rattle.processor.specs.declared.state.Processor.{Processor}
use Rattle.quantity.specs.declared.Address.{Address}
use Rattle.quantity.specs.declared.Number.{Number}
use Rattle.quantity.specs.declared.Port.{Port}
use Rattle.words.specs.Words.{and_then, word_writing, word_written}

-- Set word: the word is written to the store.

abbrev pub set_word_said : Address → State → Said
set_word_said a s = and_then (ready s) λ _. blamed fault.Word (word_writing (present s).memory a)

abbrev pub word_set : Address → Number → View → View
word_set a n v = view v.processor (word_written v.memory a n.0) v.ports

abbrev pub set_word_made : Address → Number → State → State
set_word_made a n s = upon (set_word_said a s) (moved (word_set a n (present s)) s) s

-- Set port: the word is written to the port.

abbrev pub set_port_said : Port → State → Said
set_port_said p s = and_then (ready s) λ _. blamed fault.Port (setting ((present s).ports p.0) p)

abbrev pub port_set : Port → Number → View → View
port_set p n v = view v.processor v.memory (replaced v.ports p.0 n.0)

abbrev pub set_port_made : Port → Number → State → State
set_port_made p n s = upon (set_port_said p s) (moved (port_set p n (present s)) s) s

-- Request: the interrupt waits.

-- an index above 63 is refused, and then a second request
abbrev pub request_said : ℕ → State → Said
request_said i s =
    and_then (ready s) λ _.
    and_then (blamed (λ _. fault.Index) (indexing i)) λ _. granted (not (is_some (present s).processor.waiting)) fault.Waiting

abbrev pub waits : InterruptIndex → Processor → Processor
waits i p = record { registers = p.registers; pc = p.pc; status = p.status; waiting = Some i }

abbrev pub requested : ℕ → View → View
requested i v = view (waits (index_of i) v.processor) v.memory v.ports

abbrev pub request_made : ℕ → State → State
request_made i s = upon (request_said i s) (moved (requested i (present s)) s) s

-- Release: the journal is emptied.

abbrev pub release_made : State → State
release_made s = upon (loaded s) (with_story (forgotten s.story) s) s

-- Back: the view before the latest journaled call is the present one again.

abbrev pub back_said : State → Said
back_said s = and_then (loaded s) λ _. blamed (λ _. fault.NoEntry) (back_answer s.story.past)

abbrev pub back_made : State → State
back_made s = upon (back_said s) (with_story (back_story s.story.past s.story) s) s

-- Look.

abbrev pub seen : {X E : Type 0} → (X → Shown) → (E → CallFault) → Result X E → Result Shown CallFault
seen f g (Ok x) = Ok (f x)
seen f g (Err e) = Err (g e)

-- the index that waits, and 0 while none does
abbrev pub waiting_index : Option InterruptIndex → ℕ
waiting_index None = 0
waiting_index (Some i) = i.value

abbrev pub look_said : Look → State → Result Shown CallFault
look_said (look.Register r) s = Ok (shown.Word (register_word (present s).processor r))
look_said look.Pc s = Ok (shown.Address (present s).processor.pc)
look_said look.Status s = Ok (shown.Status (present s).processor.status (is_some (present s).processor.waiting))
look_said look.Index s = Ok (shown.Index (waiting_index (present s).processor.waiting))
look_said look.Count s = Ok (shown.Count (length s.story.past))
look_said (look.Byte a) s = seen shown.Byte fault.Byte (reading ((present s).memory a.0) a)
look_said (look.Port p) s = seen shown.Word fault.Port (getting ((present s).ports p.0) p)
