-- A machine as its caller sees it. Assumes nothing.
use Rattle.std.specs.Prelude.{Bool, true, false, List, is_some, Ok, Err, Option, Result}
use Rattle.cisca.specs.declared.instruction.Instruction.{Instruction}
use Rattle.journal.specs.Stories.{Story, journaled, roomy}
use Rattle.machine.specs.declared.fault.CallFault.{CallFault}
use Rattle.machine.specs.declared.fault.CallFault.TheVariants as fault
use Rattle.processor.specs.Views.{View}
use Rattle.quantity.specs.declared.Address.{Address}
use Rattle.words.specs.Words.{and_then}

-- program: the address and the list of the load that was taken, if one was. story: the view now, and the views before
-- each journaled call, the latest first
pub record State : Type 0 where
  pub program : Option (Address × List Instruction)
  pub story : Story

-- what a call says that answers nothing but that it was taken
abbrev pub Said : Type 0
Said = Result (Unit {0}) CallFault

-- go on where the test is passed
abbrev pub granted : Bool → CallFault → Said
granted true f = Ok tt
granted false f = Err f

-- a call that is refused changes nothing
abbrev pub upon : {X F : Type 0} → Result X F → State → State → State
upon (Ok x) t s = t
upon (Err f) t s = s

abbrev pub present : State → View
present s = s.story.present

-- a program must be loaded
abbrev pub loaded : State → Said
loaded s = granted (is_some s.program) fault.NoProgram

-- and there must be room in the journal
abbrev pub ready : State → Said
ready s = and_then (loaded s) λ _. granted (roomy s.story) fault.JournalFull

abbrev pub with_story : Story → State → State
with_story t s = record { program = s.program; story = t }

-- a journaled call that leaves this view
abbrev pub moved : View → State → State
moved v s = with_story (journaled v s.story) s
