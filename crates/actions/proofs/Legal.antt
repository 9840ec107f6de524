-- A pairing is legal exactly where it is some action. Assumes nothing.
use Rattle.std.proofs.Common.{◌≡◌, Bool, false, ◌||◌, T, is_some, IsSome, Some, None, Option, option_map, sym, refl, ap, ◌∙◌, subst}
use Rattle.actions.specs.Actions.{action_of, any_source, displacement_of, inward_of, memory_of, number_of, outward_of, pair_of, place_of, plain_source, register_of, with_none, with_one}
use Rattle.actions.specs.declared.action.Action.{Action}
use Rattle.cisca.specs.Legality.{mode_if, pairing}
use Rattle.cisca.specs.declared.instruction.Instruction.{Instruction}
use Rattle.cisca.specs.declared.operation.Operation.{Operation}
use Rattle.cisca.specs.declared.operation.Operation.TheVariants as op
use Rattle.operands.specs.Groups.{grouped}
use Rattle.operands.specs.Modes.{immediate, memory, mode, pc_relative, register}
use Rattle.operands.specs.declared.group.Group.{Group}
use Rattle.operands.specs.declared.group.Group.TheVariants as group
use Rattle.operands.specs.declared.operand.Operand.{Operand}
use Rattle.operands.specs.declared.operand.Operand.TheVariants as o

abbrev takes : Group → Option Operand → Option Operand → Bool
takes g a b = grouped g (mode_if a) (mode_if b)

mapped_some : {X Y : Type 0} (f : X → Y) (x : Option X) → is_some x ≡ is_some (option_map f x)
mapped_some f None = refl
mapped_some f (Some x) = refl

none_fits : {X : Type 0} (x : X) (a b : Option Operand) → takes group.Bare a b ≡ is_some (with_none x a b)
none_fits x None None = refl
none_fits x None (Some b) = refl
none_fits x (Some a) None = refl
none_fits x (Some a) (Some b) = refl

-- a mode, and what an operand of it is taken for
register_fits : (a : Operand) → register (mode a) ≡ is_some (register_of a)
register_fits (o.Immediate n) = refl
register_fits (o.Register r) = refl
register_fits (o.Direct x) = refl
register_fits (o.Indirect r) = refl
register_fits (o.Relative r d) = refl
register_fits (o.Indexed x r) = refl
register_fits (o.PcRelative d) = refl

memory_fits : (a : Operand) → memory (mode a) ≡ is_some (memory_of a)
memory_fits (o.Immediate n) = refl
memory_fits (o.Register r) = refl
memory_fits (o.Direct x) = refl
memory_fits (o.Indirect r) = refl
memory_fits (o.Relative r d) = refl
memory_fits (o.Indexed x r) = refl
memory_fits (o.PcRelative d) = refl

number_fits : (a : Operand) → immediate (mode a) ≡ is_some (number_of a)
number_fits (o.Immediate n) = refl
number_fits (o.Register r) = refl
number_fits (o.Direct x) = refl
number_fits (o.Indirect r) = refl
number_fits (o.Relative r d) = refl
number_fits (o.Indexed x r) = refl
number_fits (o.PcRelative d) = refl

displacement_fits : (a : Operand) → pc_relative (mode a) ≡ is_some (displacement_of a)
displacement_fits (o.Immediate n) = refl
displacement_fits (o.Register r) = refl
displacement_fits (o.Direct x) = refl
displacement_fits (o.Indirect r) = refl
displacement_fits (o.Relative r d) = refl
displacement_fits (o.Indexed x r) = refl
displacement_fits (o.PcRelative d) = refl

place_fits : (a : Operand) → (register (mode a) || memory (mode a)) ≡ is_some (place_of a)
place_fits (o.Immediate n) = refl
place_fits (o.Register r) = refl
place_fits (o.Direct x) = refl
place_fits (o.Indirect r) = refl
place_fits (o.Relative r d) = refl
place_fits (o.Indexed x r) = refl
place_fits (o.PcRelative d) = refl

-- after a register any source goes, after memory a plain one
any_fits : (b : Operand) → ((immediate (mode b) || register (mode b)) || memory (mode b)) ≡ is_some (any_source b)
any_fits (o.Immediate n) = refl
any_fits (o.Register s) = refl
any_fits (o.Direct y) = refl
any_fits (o.Indirect s) = refl
any_fits (o.Relative s e) = refl
any_fits (o.Indexed y s) = refl
any_fits (o.PcRelative e) = refl

plain_fits : (b : Operand) → ((immediate (mode b) || register (mode b)) || false) ≡ is_some (plain_source b)
plain_fits (o.Immediate n) = refl
plain_fits (o.Register s) = refl
plain_fits (o.Direct y) = refl
plain_fits (o.Indirect s) = refl
plain_fits (o.Relative s e) = refl
plain_fits (o.Indexed y s) = refl
plain_fits (o.PcRelative e) = refl

one_fits : {X : Type 0} (g : Group) (f : Operand → Option X) → takes g None None ≡ false → ((a b : Operand) → takes g (Some a) (Some b) ≡ false) → ((a : Operand) → takes g (Some a) None ≡ is_some (f a)) → (a b : Option Operand) → takes g a b ≡ is_some (with_one f a b)
one_fits g f none two one None None = none
one_fits g f none two one None (Some b) = refl
one_fits g f none two one (Some a) None = one a
one_fits g f none two one (Some a) (Some b) = two a b

single_fits : (a b : Option Operand) → takes group.Single a b ≡ is_some (with_one place_of a b)
single_fits = one_fits group.Single place_of refl (λ a b. refl) place_fits

target_fits : (a b : Option Operand) → takes group.Target a b ≡ is_some (with_one number_of a b)
target_fits = one_fits group.Target number_of refl (λ a b. refl) number_fits

jump_fits : (a b : Option Operand) → takes group.Jump a b ≡ is_some (with_one displacement_of a b)
jump_fits = one_fits group.Jump displacement_of refl (λ a b. refl) displacement_fits

pair_fits : (a b : Option Operand) → takes group.Pair a b ≡ is_some (pair_of a b)
pair_fits None None = refl
pair_fits None (Some b) = refl
pair_fits (Some a) None = refl
pair_fits (Some (o.Immediate n)) (Some b) = refl
pair_fits (Some (o.Register r)) (Some b) = any_fits b ∙ mapped_some _ (any_source b)
pair_fits (Some (o.Direct x)) (Some b) = plain_fits b ∙ mapped_some _ (plain_source b)
pair_fits (Some (o.Indirect r)) (Some b) = plain_fits b ∙ mapped_some _ (plain_source b)
pair_fits (Some (o.Relative r d)) (Some b) = plain_fits b ∙ mapped_some _ (plain_source b)
pair_fits (Some (o.Indexed x r)) (Some b) = plain_fits b ∙ mapped_some _ (plain_source b)
pair_fits (Some (o.PcRelative d)) (Some b) = refl

inward_fits : (a b : Option Operand) → takes group.Inward a b ≡ is_some (inward_of a b)
inward_fits None None = refl
inward_fits None (Some b) = refl
inward_fits (Some a) None = refl
inward_fits (Some (o.Immediate n)) (Some b) = refl
inward_fits (Some (o.Register r)) (Some b) = memory_fits b ∙ mapped_some _ (memory_of b)
inward_fits (Some (o.Direct x)) (Some b) = refl
inward_fits (Some (o.Indirect r)) (Some b) = refl
inward_fits (Some (o.Relative r d)) (Some b) = refl
inward_fits (Some (o.Indexed x r)) (Some b) = refl
inward_fits (Some (o.PcRelative d)) (Some b) = refl

outward_fits : (a b : Option Operand) → takes group.Outward a b ≡ is_some (outward_of a b)
outward_fits None None = refl
outward_fits None (Some b) = refl
outward_fits (Some a) None = refl
outward_fits (Some (o.Immediate n)) (Some b) = refl
outward_fits (Some (o.Register r)) (Some b) = refl
outward_fits (Some (o.Direct x)) (Some b) = register_fits b ∙ mapped_some _ (register_of b)
outward_fits (Some (o.Indirect r)) (Some b) = register_fits b ∙ mapped_some _ (register_of b)
outward_fits (Some (o.Relative r d)) (Some b) = register_fits b ∙ mapped_some _ (register_of b)
outward_fits (Some (o.Indexed x r)) (Some b) = register_fits b ∙ mapped_some _ (register_of b)
outward_fits (Some (o.PcRelative d)) (Some b) = refl

pub legal : (o : Operation) (a b : Option Operand) → pairing o a b ≡ is_some (action_of o a b)
legal op.Nop a b = none_fits _ a b
legal op.Sti a b = none_fits _ a b
legal op.Cli a b = none_fits _ a b
legal op.Mov a b = pair_fits a b ∙ mapped_some _ (pair_of a b)
legal op.Push a b = single_fits a b ∙ mapped_some _ (with_one place_of a b)
legal op.Pop a b = single_fits a b ∙ mapped_some _ (with_one place_of a b)
legal op.Add a b = pair_fits a b ∙ mapped_some _ (pair_of a b)
legal op.Sub a b = pair_fits a b ∙ mapped_some _ (pair_of a b)
legal op.Mul a b = pair_fits a b ∙ mapped_some _ (pair_of a b)
legal op.Div a b = pair_fits a b ∙ mapped_some _ (pair_of a b)
legal op.Inc a b = single_fits a b ∙ mapped_some _ (with_one place_of a b)
legal op.Dec a b = single_fits a b ∙ mapped_some _ (with_one place_of a b)
legal op.Cmp a b = pair_fits a b ∙ mapped_some _ (pair_of a b)
legal op.Neg a b = single_fits a b ∙ mapped_some _ (with_one place_of a b)
legal op.And a b = pair_fits a b ∙ mapped_some _ (pair_of a b)
legal op.Or a b = pair_fits a b ∙ mapped_some _ (pair_of a b)
legal op.Xor a b = pair_fits a b ∙ mapped_some _ (pair_of a b)
legal op.Test a b = pair_fits a b ∙ mapped_some _ (pair_of a b)
legal op.Not a b = single_fits a b ∙ mapped_some _ (with_one place_of a b)
legal op.Sal a b = pair_fits a b ∙ mapped_some _ (pair_of a b)
legal op.Sar a b = pair_fits a b ∙ mapped_some _ (pair_of a b)
legal op.Jmp a b = target_fits a b ∙ mapped_some _ (with_one number_of a b)
legal op.Je a b = jump_fits a b ∙ mapped_some _ (with_one displacement_of a b)
legal op.Jne a b = jump_fits a b ∙ mapped_some _ (with_one displacement_of a b)
legal op.Jl a b = jump_fits a b ∙ mapped_some _ (with_one displacement_of a b)
legal op.Jle a b = jump_fits a b ∙ mapped_some _ (with_one displacement_of a b)
legal op.Jg a b = jump_fits a b ∙ mapped_some _ (with_one displacement_of a b)
legal op.Jge a b = jump_fits a b ∙ mapped_some _ (with_one displacement_of a b)
legal op.Call a b = target_fits a b ∙ mapped_some _ (with_one number_of a b)
legal op.Ret a b = none_fits _ a b
legal op.Int a b = target_fits a b ∙ mapped_some _ (with_one number_of a b)
legal op.Iret a b = none_fits _ a b
legal op.In a b = inward_fits a b ∙ mapped_some _ (inward_of a b)
legal op.Out a b = outward_fits a b ∙ mapped_some _ (outward_of a b)

is_there : (r : Option Action) → T (is_some r) → IsSome r
is_there None t = absurd t
is_there (Some x) t = refl

-- so an instruction always has an action
pub acts : (i : Instruction) (o : Operation) (a b : Option Operand) (r : Option Action) → o ≡ i.operation → a ≡ i.first → b ≡ i.second → r ≡ action_of o a b → IsSome r
acts i o a b r e1 e2 e3 e4 =
    let same : r ≡ action_of i.operation i.first i.second = e4 ∙ λ j. action_of (e1 j) (e2 j) (e3 j) in
    is_there r (subst T (legal i.operation i.first i.second ∙ ap is_some (sym same)) i.legal)
