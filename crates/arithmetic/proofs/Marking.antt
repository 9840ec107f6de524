-- The status after each operation is as its marks say. Assumes nothing.
use Rattle.std.proofs.Common.{Bool, true, false, cond, eqb, Option, refl}
use Rattle.quantity.specs.declared.Number.{Number}
use Rattle.arithmetic.specs.Marks.{Keeps, Marks, binary_marks, comparison_marks, division_marks, unary_marks}
use Rattle.arithmetic.specs.Results.{altered, combined, compared, divided}
use Rattle.arithmetic.specs.declared.division.Division.{Division}
use Rattle.arithmetic.specs.declared.operation.BinaryOperation.{BinaryOperation}
use Rattle.arithmetic.specs.declared.operation.BinaryOperation.TheVariants.{Add, And, Mul, Or, Sal, Sar, Sub, Xor}
use Rattle.arithmetic.specs.declared.operation.Comparison.{Comparison}
use Rattle.arithmetic.specs.declared.operation.Comparison.TheVariants.{Cmp, Test}
use Rattle.arithmetic.specs.declared.operation.UnaryOperation.{UnaryOperation}
use Rattle.arithmetic.specs.declared.operation.UnaryOperation.TheVariants.{Dec, Inc, Neg, Not}
use Rattle.arithmetic.specs.declared.status.Status.{Status}

pub combined_keeps : (k : BinaryOperation) (a b : Number) (s : Status) → Keeps (binary_marks k) s (combined k a b s).1
combined_keeps Add a b s = (tt, tt, tt, tt, refl)
combined_keeps Sub a b s = (tt, tt, tt, tt, refl)
combined_keeps Mul a b s = (tt, tt, refl, tt, refl)
combined_keeps And a b s = (tt, tt, refl, refl, refl)
combined_keeps Or a b s = (tt, tt, refl, refl, refl)
combined_keeps Xor a b s = (tt, tt, refl, refl, refl)
combined_keeps Sal a b s = (tt, tt, refl, tt, refl)
combined_keeps Sar a b s = (tt, tt, refl, refl, refl)

pub compared_keeps : (k : Comparison) (a b : Number) (s : Status) → Keeps (comparison_marks k) s (compared k a b s)
compared_keeps Cmp a b s = (tt, tt, tt, tt, refl)
compared_keeps Test a b s = (tt, tt, refl, refl, refl)

pub altered_keeps : (k : UnaryOperation) (a : Number) (s : Status) → Keeps (unary_marks k) s (altered k a s).1
altered_keeps Inc a s = (tt, tt, tt, tt, refl)
altered_keeps Dec a s = (tt, tt, tt, tt, refl)
altered_keeps Neg a s = (tt, tt, tt, tt, refl)
altered_keeps Not a s = (refl, refl, refl, refl, refl)

either_keeps : (t : Bool) (m : Marks) (s : Status) (x y : Option Division × Status) → Keeps m s x.1 → Keeps m s y.1 → Keeps m s (cond t x y).1
either_keeps true m s x y g h = g
either_keeps false m s x y g h = h

pub divided_keeps : (a b : Number) (s : Status) → Keeps division_marks s (divided a b s).1
divided_keeps a b s = either_keeps (eqb b.0 0) division_marks s _ _ (tt, tt, tt, tt, refl) (tt, tt, tt, tt, refl)
