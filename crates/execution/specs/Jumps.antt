-- The conditional jumps. Assumes nothing.
use Rattle.std.specs.Prelude.{Bool, cond, not, ◌||◌}
use Rattle.actions.specs.declared.action.Condition.{Condition}
use Rattle.actions.specs.declared.action.Condition.TheVariants.{Equal, Greater, GreaterOrEqual, Less, LessOrEqual, NotEqual}
use Rattle.arithmetic.specs.Results.{differ}
use Rattle.arithmetic.specs.declared.status.Status.{Status}
use Rattle.processor.specs.declared.state.Processor.{Processor}
use Rattle.quantity.specs.Sums.{displaced}
use Rattle.quantity.specs.declared.Displacement.{Displacement}
use Rattle.processor.specs.Registers.{with_pc}

-- does the condition hold of the status? After a comparison of two numbers the first is less where
-- S and V differ
abbrev pub holds : Condition → Status → Bool
holds Equal s = s.zero
holds NotEqual s = not s.zero
holds Less s = differ s.sign s.overflow
holds LessOrEqual s = s.zero || differ s.sign s.overflow
holds Greater s = not (s.zero || differ s.sign s.overflow)
holds GreaterOrEqual s = not (differ s.sign s.overflow)

-- PC, which is the address of the next instruction by now, is moved where the condition holds
abbrev pub branched : Processor → Condition → Displacement → Processor
branched p k d = cond (holds k p.status) (with_pc p (displaced p.pc d)) p
