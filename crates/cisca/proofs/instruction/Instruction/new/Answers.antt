use Rattle.std.proofs.Common.{sym, ◌∙◌}
use Rattle.std.specs.Bool.{passes}
use Rattle.cisca.proofs.instruction.Instruction.new.Goals as goal

pub invariant_of-result-clause-legal : goal.invariant_of-result-clause-legal
invariant_of-result-clause-legal c = passes _ (sym c.is_legal.ensures ∙ c.if-is_legal.true)
