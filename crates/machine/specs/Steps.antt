-- One step, over any execution of instructions. Assumes nothing.
use Rattle.std.specs.Prelude.{ℕ, ◌-◌, Bool, true, false, cond, List, is_some, Some, None, Ok, Err, Option, Result, nat_le}
use Rattle.cisca.specs.declared.instruction.Instruction.{Instruction}
use Rattle.execution.specs.Executions.{delivered, executed}
use Rattle.loading.specs.Layouts.{starting}
use Rattle.machine.specs.States.{State, moved, present}
use Rattle.machine.specs.declared.machine.step.Stepped.{Stepped}
use Rattle.machine.specs.declared.machine.step.Stepped.TheVariants.{Delivered, Executed}
use Rattle.journal.specs.Stories.{roomy}
use Rattle.processor.specs.Processors.{due}
use Rattle.processor.specs.Views.{View, applied}
use Rattle.processor.specs.declared.effect.Effect.{Effect}
use Rattle.processor.specs.declared.fault.Cause.{Cause}
use Rattle.processor.specs.declared.fault.Cause.TheVariants as cause
use Rattle.processor.specs.declared.fault.StepFault.{StepFault}
use Rattle.processor.specs.declared.interrupt.InterruptIndex.{InterruptIndex}
use Rattle.quantity.specs.declared.Address.{Address}
use Rattle.words.specs.Words.{and_then}

-- an execution: what an instruction, and what a delivery, makes of a view
pub record Execution : Type 0 where
  pub executes : Instruction → View → Result View StepFault
  pub delivers : ℕ → View → Result View StepFault

-- that of the CISCA machine
abbrev pub cisca : Execution
cisca = record { executes = executed; delivers = delivered }

-- a step's refusal, with PC as it stood
abbrev pub refused : Cause → State → StepFault
refused c s = record { cause = c; pc = (present s).processor.pc }

-- go on where the test is passed
abbrev pub allowed : Bool → Cause → State → Result (Unit {0}) StepFault
allowed true c s = Ok tt
allowed false c s = Err (refused c s)

-- the record that starts at an address
abbrev pub found_in : Option (Address × List Instruction) → Address → Option Instruction
found_in None pc = None
found_in (Some p) pc = cond (nat_le p.0.0 pc.0) (starting p.1 (pc.0 - p.0.0)) None

-- what a step did, and the view that it leaves; or a refusal
abbrev pub Outcome : Type 0
Outcome = Result (Stepped × View) StepFault

abbrev pub with_view : Stepped → Result View StepFault → Outcome
with_view t (Ok v) = Ok (t, v)
with_view t (Err f) = Err f

-- the instruction at PC is done; PC must be the start of one
abbrev pub instructed_by : Execution → Option Instruction → State → Outcome
instructed_by x None s = Err (refused cause.NoStart s)
instructed_by x (Some i) s = with_view (Executed (present s).processor.pc i) (x.executes i (present s))

-- a delivery if one is due, else the instruction
abbrev pub chosen : Execution → Option InterruptIndex → State → Outcome
chosen x None s = instructed_by x (found_in s.program (present s).processor.pc) s
chosen x (Some i) s = with_view (Delivered i) (x.delivers i.value (present s))

-- a program must be loaded, and there must be room in the journal
abbrev pub outcome : Execution → State → Outcome
outcome x s =
    and_then (allowed (is_some s.program) cause.NoProgram s) λ _.
    and_then (allowed (roomy s.story) cause.JournalFull s) λ _. chosen x (due (present s).processor) s

abbrev pub answer_of : Outcome → Result Stepped StepFault
answer_of (Ok o) = Ok o.0
answer_of (Err f) = Err f

abbrev pub left_by : Outcome → State → State
left_by (Ok o) s = moved o.1 s
left_by (Err f) s = s

abbrev pub step_said : Execution → State → Result Stepped StepFault
step_said x s = answer_of (outcome x s)

abbrev pub step_made : Execution → State → State
step_made x s = left_by (outcome x s) s

-- what is planned, with the view that its effect leaves
abbrev pub planned_outcome : Result (Stepped × Effect) StepFault → View → Outcome
planned_outcome (Ok o) v = Ok (o.0, applied o.1 v)
planned_outcome (Err f) v = Err f
