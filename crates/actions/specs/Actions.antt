-- An instruction taken apart; nothing where its pairing is not legal. Assumes nothing.
use Rattle.std.specs.Prelude.{true, false, Some, None, Option, option_and_then, option_map}
use Rattle.std.specs.Option.{option_or, option_zip}
use Rattle.actions.specs.declared.action.Action.{Action}
use Rattle.actions.specs.declared.action.Action.TheVariants.{Inner, Input, Output}
use Rattle.actions.specs.declared.action.Command.TheVariants as command
use Rattle.actions.specs.declared.action.Condition.{Condition}
use Rattle.actions.specs.declared.action.Condition.TheVariants.{Equal, Greater, GreaterOrEqual, Less, LessOrEqual, NotEqual}
use Rattle.actions.specs.declared.action.MemoryOperand.{MemoryOperand}
use Rattle.actions.specs.declared.action.MemoryOperand.TheVariants as memory
use Rattle.actions.specs.declared.action.Place.{Place}
use Rattle.actions.specs.declared.action.Place.TheVariants as place
use Rattle.actions.specs.declared.action.Source.{Source}
use Rattle.actions.specs.declared.action.Source.TheVariants as source
use Rattle.arithmetic.specs.declared.operation.BinaryOperation.{BinaryOperation}
use Rattle.arithmetic.specs.declared.operation.BinaryOperation.TheVariants as binary
use Rattle.arithmetic.specs.declared.operation.Comparison.{Comparison}
use Rattle.arithmetic.specs.declared.operation.Comparison.TheVariants as comparison
use Rattle.arithmetic.specs.declared.operation.UnaryOperation.{UnaryOperation}
use Rattle.arithmetic.specs.declared.operation.UnaryOperation.TheVariants as unary
use Rattle.cisca.specs.Making.{Parts}
use Rattle.cisca.specs.declared.operation.Operation.{Operation}
use Rattle.cisca.specs.declared.operation.Operation.TheVariants as op
use Rattle.operands.specs.declared.operand.Operand.{Operand}
use Rattle.operands.specs.declared.operand.Operand.TheVariants as o
use Rattle.operands.specs.declared.register.Register.{Register}
use Rattle.quantity.specs.Sums.{address}
use Rattle.quantity.specs.declared.Displacement.{Displacement}
use Rattle.quantity.specs.declared.Number.{Number}

-- modes 2 to 5
abbrev pub memory_of : Operand → Option MemoryOperand
memory_of (o.Immediate n) = None
memory_of (o.Register r) = None
memory_of (o.Direct a) = Some (memory.Direct a)
memory_of (o.Indirect r) = Some (memory.Indirect r)
memory_of (o.Relative r d) = Some (memory.Relative r d)
memory_of (o.Indexed a r) = Some (memory.Indexed a r)
memory_of (o.PcRelative d) = None

-- mode 1
abbrev pub register_of : Operand → Option Register
register_of (o.Immediate n) = None
register_of (o.Register r) = Some r
register_of (o.Direct a) = None
register_of (o.Indirect r) = None
register_of (o.Relative r d) = None
register_of (o.Indexed a r) = None
register_of (o.PcRelative d) = None

-- mode 0
abbrev pub number_of : Operand → Option Number
number_of (o.Immediate n) = Some n
number_of (o.Register r) = None
number_of (o.Direct a) = None
number_of (o.Indirect r) = None
number_of (o.Relative r d) = None
number_of (o.Indexed a r) = None
number_of (o.PcRelative d) = None

-- mode 6
abbrev pub displacement_of : Operand → Option Displacement
displacement_of (o.Immediate n) = None
displacement_of (o.Register r) = None
displacement_of (o.Direct a) = None
displacement_of (o.Indirect r) = None
displacement_of (o.Relative r d) = None
displacement_of (o.Indexed a r) = None
displacement_of (o.PcRelative d) = Some d

-- modes 1 to 5
abbrev pub place_of : Operand → Option Place
place_of a = option_or (option_map place.Register (register_of a)) (option_map place.Memory (memory_of a))

-- modes 0 and 1
abbrev pub plain_source : Operand → Option Source
plain_source a = option_or (option_map source.Immediate (number_of a)) (option_map (λ r. source.Place (place.Register r)) (register_of a))

-- modes 0 to 5
abbrev pub any_source : Operand → Option Source
any_source a = option_or (option_map source.Immediate (number_of a)) (option_map source.Place (place_of a))

-- a register takes any source, memory a plain one
abbrev pub source_for : Place → Operand → Option Source
source_for (place.Register r) b = any_source b
source_for (place.Memory m) b = plain_source b

-- no operand
abbrev pub with_none : {X : Type 0} → X → Option Operand → Option Operand → Option X
with_none x None None = Some x
with_none x None (Some b) = None
with_none x (Some a) b = None

-- the operand, where there is one
abbrev pub only : Option Operand → Option Operand → Option Operand
only a None = a
only a (Some b) = None

-- one operand, by what it is
abbrev pub with_one : {X : Type 0} → (Operand → Option X) → Option Operand → Option Operand → Option X
with_one f a b = option_and_then f (only a b)

-- two operands, by what they are
abbrev pub with_two : {X Y : Type 0} → (Operand → Option X) → (X → Operand → Option Y) → Option Operand → Option Operand → Option (X × Y)
with_two f g a b = option_and_then (λ o. option_and_then (λ x. option_map (λ y. (x, y)) (g x o.1)) (f o.0)) (option_zip a b)

-- a destination and a source
abbrev pub pair_of : Option Operand → Option Operand → Option (Place × Source)
pair_of a b = with_two place_of source_for a b

-- a register, then a port
abbrev pub inward_of : Option Operand → Option Operand → Option (Register × MemoryOperand)
inward_of a b = with_two register_of (λ _. memory_of) a b

-- a port, then a register
abbrev pub outward_of : Option Operand → Option Operand → Option (MemoryOperand × Register)
outward_of a b = with_two memory_of (λ _. register_of) a b

abbrev pub combining : BinaryOperation → Option Operand → Option Operand → Option Action
combining k a b = option_map (λ p. Inner (command.Combine k p.0 p.1)) (pair_of a b)

abbrev pub comparing : Comparison → Option Operand → Option Operand → Option Action
comparing k a b = option_map (λ p. Inner (command.Compare k p.0 p.1)) (pair_of a b)

abbrev pub altering : UnaryOperation → Option Operand → Option Operand → Option Action
altering k a b = option_map (λ d. Inner (command.Alter k d)) (with_one place_of a b)

abbrev pub branching : Condition → Option Operand → Option Operand → Option Action
branching k a b = option_map (λ d. Inner (command.Branch k d)) (with_one displacement_of a b)

-- what an operation does with its operands
abbrev pub action_of : Operation → Option Operand → Option Operand → Option Action
action_of op.Nop a b = with_none (Inner command.Pass) a b
action_of op.Sti a b = with_none (Inner (command.Enable true)) a b
action_of op.Cli a b = with_none (Inner (command.Enable false)) a b
action_of op.Mov a b = option_map (λ p. Inner (command.Move p.0 p.1)) (pair_of a b)
action_of op.Push a b = option_map (λ d. Inner (command.Push d)) (with_one place_of a b)
action_of op.Pop a b = option_map (λ d. Inner (command.Pop d)) (with_one place_of a b)
action_of op.Add a b = combining binary.Add a b
action_of op.Sub a b = combining binary.Sub a b
action_of op.Mul a b = combining binary.Mul a b
action_of op.Div a b = option_map (λ p. Inner (command.Divide p.0 p.1)) (pair_of a b)
action_of op.Inc a b = altering unary.Inc a b
action_of op.Dec a b = altering unary.Dec a b
action_of op.Cmp a b = comparing comparison.Cmp a b
action_of op.Neg a b = altering unary.Neg a b
action_of op.And a b = combining binary.And a b
action_of op.Or a b = combining binary.Or a b
action_of op.Xor a b = combining binary.Xor a b
action_of op.Test a b = comparing comparison.Test a b
action_of op.Not a b = altering unary.Not a b
action_of op.Sal a b = combining binary.Sal a b
action_of op.Sar a b = combining binary.Sar a b
action_of op.Jmp a b = option_map (λ n. Inner (command.Jump (address n.0))) (with_one number_of a b)
action_of op.Je a b = branching Equal a b
action_of op.Jne a b = branching NotEqual a b
action_of op.Jl a b = branching Less a b
action_of op.Jle a b = branching LessOrEqual a b
action_of op.Jg a b = branching Greater a b
action_of op.Jge a b = branching GreaterOrEqual a b
action_of op.Call a b = option_map (λ n. Inner (command.Call (address n.0))) (with_one number_of a b)
action_of op.Ret a b = with_none (Inner command.Return) a b
action_of op.Int a b = option_map (λ n. Inner (command.Interrupt n)) (with_one number_of a b)
action_of op.Iret a b = with_none (Inner command.Resume) a b
action_of op.In a b = option_map (λ p. Input p.0 p.1) (inward_of a b)
action_of op.Out a b = option_map (λ p. Output p.0 p.1) (outward_of a b)

-- what an instruction does
abbrev pub action : Parts → Option Action
action x = action_of x.operation x.first x.second
