-- What each instruction makes of a processor, its memory and its ports. Assumes nothing.
use Rattle.std.specs.Prelude.{ℕ, Bool, length, Some, None, Ok, Err, Option, Result}
use Rattle.actions.specs.Actions.{action}
use Rattle.actions.specs.declared.action.Action.{Action}
use Rattle.actions.specs.declared.action.Action.TheVariants.{Inner, Input, Output}
use Rattle.actions.specs.declared.action.Command.{Command}
use Rattle.actions.specs.declared.action.Command.TheVariants as command
use Rattle.arithmetic.specs.declared.status.Status.{Status}
use Rattle.cisca.specs.Making.{parts}
use Rattle.cisca.specs.declared.instruction.Instruction.{Instruction}
use Rattle.codec.specs.Encoding.{bytes}
use Rattle.processor.specs.Views.{View, sent, view}
use Rattle.processor.specs.declared.fault.Cause.{Cause}
use Rattle.processor.specs.declared.fault.StepFault.{StepFault}
use Rattle.processor.specs.declared.state.Processor.{Processor}
use Rattle.quantity.specs.Sums.{later}
use Rattle.quantity.specs.declared.Address.{Address}
use Rattle.words.specs.Words.{and_then}
use Rattle.execution.specs.Commands.{altering, combining, comparing, dividing, moving}
use Rattle.execution.specs.Contexts.{Context, blamed, context, turned}
use Rattle.execution.specs.Interrupts.{delivering, serving}
use Rattle.execution.specs.Jumps.{branched}
use Rattle.execution.specs.Ports.{giving, taking}
use Rattle.processor.specs.Registers.{with_pc, with_status}
use Rattle.execution.specs.Stack.{calling, popping, pushing, resuming, returning}

-- the bit IE set or cleared
abbrev pub enabling : Bool → Status → Status
enabling e s = record { zero = s.zero; sign = s.sign; carry = s.carry; overflow = s.overflow; enabled = e }

-- a command, done; PC is the address of the next instruction by now
abbrev pub commanded : Command → Context → Result Context Cause
commanded command.Pass s = Ok s
commanded (command.Enable e) s = Ok (turned (with_status s.processor (enabling e s.processor.status)) s)
commanded (command.Move d b) s = moving d b s
commanded (command.Push d) s = pushing d s
commanded (command.Pop d) s = popping d s
commanded (command.Combine k d b) s = combining k d b s
commanded (command.Divide d b) s = dividing d b s
commanded (command.Alter k d) s = altering k d s
commanded (command.Compare k d b) s = comparing k d b s
commanded (command.Jump a) s = Ok (turned (with_pc s.processor a) s)
commanded (command.Branch k d) s = Ok (turned (branched s.processor k d) s)
commanded (command.Call a) s = calling a s
commanded command.Return s = returning s
commanded (command.Interrupt n) s = serving n s
commanded command.Resume s = resuming s

-- a context with the ports beside it
abbrev pub beside : (ℕ → Option ℕ) → Result Context Cause → Result View Cause
beside ws (Ok s) = Ok (view s.processor s.memory ws)
beside ws (Err f) = Err f

abbrev pub performed : Action → View → Result View Cause
performed (Inner k) v = beside v.ports (commanded k (context v.processor v.memory))
performed (Input r m) v = and_then (taking v.processor v.ports r m) λ p. Ok (view p v.memory v.ports)
performed (Output m r) v = and_then (giving v.processor v.ports m r) λ w. Ok (view v.processor v.memory (sent (Some w) v.ports))

-- every instruction has an action, since it is legal
abbrev pub performed_if : Option Action → View → Result View Cause
performed_if None v = Ok v
performed_if (Some x) v = performed x v

-- a fault names PC as it stood
abbrev pub located : {X : Type 0} → Address → Result X Cause → Result X StepFault
located pc r = blamed (λ f. record { cause = f; pc = pc }) r

-- PCup, the address of the next instruction: that of this one plus its length
abbrev pub next_address : Instruction → Processor → Address
next_address i p = later p.pc (length (bytes i))

-- PC becomes PCup, and then the instruction is done
abbrev pub executed : Instruction → View → Result View StepFault
executed i v = located v.processor.pc (performed_if (action (parts i)) (view (with_pc v.processor (next_address i v.processor)) v.memory v.ports))

-- the delivery of an interrupt
abbrev pub delivered : ℕ → View → Result View StepFault
delivered i v = located v.processor.pc (beside v.ports (delivering i (context v.processor v.memory)))
