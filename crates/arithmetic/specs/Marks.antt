-- Which status bits an operation can change, clears or leaves. Assumes nothing.
use Rattle.std.specs.Prelude.{◌≡◌, Bool, false}
use Rattle.arithmetic.specs.declared.operation.BinaryOperation.{BinaryOperation}
use Rattle.arithmetic.specs.declared.operation.BinaryOperation.TheVariants.{Add, And, Mul, Or, Sal, Sar, Sub, Xor}
use Rattle.arithmetic.specs.declared.operation.Comparison.{Comparison}
use Rattle.arithmetic.specs.declared.operation.Comparison.TheVariants.{Cmp, Test}
use Rattle.arithmetic.specs.declared.operation.UnaryOperation.{UnaryOperation}
use Rattle.arithmetic.specs.declared.operation.UnaryOperation.TheVariants.{Dec, Inc, Neg, Not}
use Rattle.arithmetic.specs.declared.status.Status.{Status}

-- a bit follows the result, stays as it was, or is cleared
pub data Mark : Type 0 where
  follows : Mark
  stays : Mark
  cleared : Mark

-- the marks of Z, S, C and V
pub record Marks : Type 0 where
  pub z : Mark
  pub s : Mark
  pub c : Mark
  pub v : Mark

abbrev pub marks : Mark → Mark → Mark → Mark → Marks
marks z s c v = record { z = z; s = s; c = c; v = v }

abbrev pub binary_marks : BinaryOperation → Marks
binary_marks Add = marks follows follows follows follows
binary_marks Sub = marks follows follows follows follows
binary_marks Mul = marks follows follows stays follows
binary_marks And = marks follows follows cleared cleared
binary_marks Or = marks follows follows cleared cleared
binary_marks Xor = marks follows follows cleared cleared
binary_marks Sal = marks follows follows stays follows
binary_marks Sar = marks follows follows stays cleared

abbrev pub comparison_marks : Comparison → Marks
comparison_marks Cmp = marks follows follows follows follows
comparison_marks Test = marks follows follows cleared cleared

abbrev pub unary_marks : UnaryOperation → Marks
unary_marks Inc = marks follows follows follows follows
unary_marks Dec = marks follows follows follows follows
unary_marks Neg = marks follows follows follows follows
unary_marks Not = marks stays stays stays stays

abbrev pub division_marks : Marks
division_marks = marks follows follows follows follows

-- a bit before and after, as its mark says
abbrev pub Keep : Mark → Bool → Bool → Type 0
Keep follows before after = Unit {0}
Keep stays before after = after ≡ before
Keep cleared before after = after ≡ false

-- the status p before and q after: each bit as its mark says, and IE as it was
abbrev pub Keeps : Marks → Status → Status → Type 0
Keeps m p q =
    Keep m.z p.zero q.zero
    × Keep m.s p.sign q.sign
    × Keep m.c p.carry q.carry
    × Keep m.v p.overflow q.overflow
    × (q.enabled ≡ p.enabled)
