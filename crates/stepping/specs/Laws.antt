-- What an instruction can change of a processor. Assumes nothing.
use Rattle.std.specs.Prelude.{◌≡◌, ℕ, ◌^◌, ◌<◌, Bool, true, false, not, ◌||◌, Some, None, Option, ◌==◌, int_le, int_lt, nat_eq}
use Rattle.actions.specs.declared.action.Action.{Action}
use Rattle.actions.specs.declared.action.Action.TheVariants.{Inner, Input, Output}
use Rattle.actions.specs.declared.action.Command.{Command}
use Rattle.actions.specs.declared.action.Command.TheVariants as command
use Rattle.actions.specs.declared.action.Condition.{Condition}
use Rattle.actions.specs.declared.action.Condition.TheVariants.{Equal, Greater, GreaterOrEqual, Less, LessOrEqual, NotEqual}
use Rattle.actions.specs.declared.action.Place.{Place}
use Rattle.actions.specs.declared.action.Place.TheVariants as place
use Rattle.arithmetic.specs.Marks.{Keeps, binary_marks, comparison_marks, division_marks, unary_marks}
use Rattle.arithmetic.specs.Results.{compared, number}
use Rattle.arithmetic.specs.declared.operation.Comparison.TheVariants.{Cmp}
use Rattle.arithmetic.specs.declared.status.Status.{Status}
use Rattle.execution.specs.Executions.{enabling}
use Rattle.execution.specs.Jumps.{holds}
use Rattle.processor.specs.Processors.{held}
use Rattle.processor.specs.declared.state.Processor.{Processor}
use Rattle.quantity.specs.Integers.{signed}
use Rattle.quantity.specs.Sums.{displaced}
use Rattle.quantity.specs.declared.Address.{Address}

-- Registers.

-- is the place a register that the test holds of?
abbrev pub names : (ℕ → Bool) → Place → Bool
names t (place.Register r) = t r.index
names t (place.Memory m) = false

-- can the command change a register that the test holds of: its destination, R15 for the stack, R0 for a division?
abbrev pub changes : (ℕ → Bool) → Command → Bool
changes t command.Pass = false
changes t (command.Enable e) = false
changes t (command.Move d b) = names t d
changes t (command.Push d) = t 15
changes t (command.Pop d) = t 15 || names t d
changes t (command.Combine k d b) = names t d
changes t (command.Divide d b) = names t d || t 0
changes t (command.Alter k d) = names t d
changes t (command.Compare k d b) = false
changes t (command.Jump a) = false
changes t (command.Branch k d) = false
changes t (command.Call a) = t 15
changes t command.Return = t 15
changes t (command.Interrupt n) = t 15
changes t command.Resume = t 15

-- the same of an action; IN changes its register
abbrev pub action_changes : (ℕ → Bool) → Option Action → Bool
action_changes t None = false
action_changes t (Some (Inner k)) = changes t k
action_changes t (Some (Input r m)) = t r.index
action_changes t (Some (Output m r)) = false

-- a register that the action cannot change is as it was
abbrev pub RegistersStay : Option Action → Processor → Processor → Type 0
RegistersStay x p q = (k : ℕ) → action_changes (nat_eq k) x ≡ false → held q k ≡ held p k

-- Status bits.

-- the status before and after a command: the marks of its operation; STI and CLI change IE alone, and IRET brings a
-- whole status back
abbrev pub StatusFollows : Command → Status → Status → Type 0
StatusFollows command.Pass p q = q ≡ p
StatusFollows (command.Enable e) p q = q ≡ enabling e p
StatusFollows (command.Move d b) p q = q ≡ p
StatusFollows (command.Push d) p q = q ≡ p
StatusFollows (command.Pop d) p q = q ≡ p
StatusFollows (command.Combine k d b) p q = Keeps (binary_marks k) p q
StatusFollows (command.Divide d b) p q = Keeps division_marks p q
StatusFollows (command.Alter k d) p q = Keeps (unary_marks k) p q
StatusFollows (command.Compare k d b) p q = Keeps (comparison_marks k) p q
StatusFollows (command.Jump a) p q = q ≡ p
StatusFollows (command.Branch k d) p q = q ≡ p
StatusFollows (command.Call a) p q = q ≡ p
StatusFollows command.Return p q = q ≡ p
StatusFollows (command.Interrupt n) p q = q ≡ p
StatusFollows command.Resume p q = Unit {0}

abbrev pub ActionStatus : Option Action → Processor → Processor → Type 0
ActionStatus None p q = Unit {0}
ActionStatus (Some (Inner k)) p q = StatusFollows k p.status q.status
ActionStatus (Some (Input r m)) p q = q.status ≡ p.status
ActionStatus (Some (Output m r)) p q = q.status ≡ p.status

-- The program counter.

-- where a command that is no call, return or interrupt goes on: at the next instruction, at the target of a jump, or
-- at that of a conditional jump exactly where its condition holds
abbrev pub GoesTo : Command → Status → Address → Address → Type 0
GoesTo command.Pass s next pc = pc ≡ next
GoesTo (command.Enable e) s next pc = pc ≡ next
GoesTo (command.Move d b) s next pc = pc ≡ next
GoesTo (command.Push d) s next pc = pc ≡ next
GoesTo (command.Pop d) s next pc = pc ≡ next
GoesTo (command.Combine k d b) s next pc = pc ≡ next
GoesTo (command.Divide d b) s next pc = pc ≡ next
GoesTo (command.Alter k d) s next pc = pc ≡ next
GoesTo (command.Compare k d b) s next pc = pc ≡ next
GoesTo (command.Jump a) s next pc = pc ≡ a
GoesTo (command.Branch k d) s next pc = (holds k s ≡ true → pc ≡ displaced next d) × (holds k s ≡ false → pc ≡ next)
GoesTo (command.Call a) s next pc = pc ≡ a
GoesTo command.Return s next pc = Unit {0}
GoesTo (command.Interrupt n) s next pc = Unit {0}
GoesTo command.Resume s next pc = Unit {0}

abbrev pub ActionGoes : Option Action → Status → Address → Address → Type 0
ActionGoes None s next pc = Unit {0}
ActionGoes (Some (Inner k)) s next pc = GoesTo k s next pc
ActionGoes (Some (Input r m)) s next pc = pc ≡ next
ActionGoes (Some (Output m r)) s next pc = pc ≡ next

-- Comparisons.

-- do two words, as numbers in two's complement, compare so?
abbrev pub compares : Condition → ℕ → ℕ → Bool
compares Equal a b = a == b
compares NotEqual a b = not (a == b)
compares Less a b = int_lt (signed a) (signed b)
compares LessOrEqual a b = int_le (signed a) (signed b)
compares Greater a b = int_lt (signed b) (signed a)
compares GreaterOrEqual a b = int_le (signed b) (signed a)

-- after CMP a, b each condition holds exactly where the numbers compare so
abbrev pub ConditionsCompare : Type 0
ConditionsCompare = (k : Condition) (a b : ℕ) (s : Status) → a < 2 ^ 32 → b < 2 ^ 32 → holds k (compared Cmp (number a) (number b) s) ≡ compares k a b
