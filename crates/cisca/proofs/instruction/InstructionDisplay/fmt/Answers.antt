use mathlib.Core.List.{append_assoc}
use Rattle.std.proofs.Common.{◌++◌, refl}
use Rattle.std.proofs.Output.{has_written_append, has_written_of_eq}
use Rattle.std.specs.Prelude.{codes}
use Rattle.operands.specs.Text.{operand_text}
use Rattle.cisca.specs.Table.{letters}
use Rattle.cisca.proofs.Codes.{padded_name}
use Rattle.cisca.proofs.instruction.InstructionDisplay.fmt.Goals as goal

pub returns-in-Some-second-clause-writes : goal.returns-in-Some-second-clause-writes
returns-in-Some-second-clause-writes g c p ok =
    let one = rw (c.laid_out.ensures, padded_name) at c.in_ok-write.ensures.writes p refl in
    rw (c.in-Some.is, c.in-Some-second.is)
    (has_written_of_eq _ _ _ _ _ (append_assoc (letters c.args.self.now.operation) (codes " " ++ operand_text c.in-Some.first) (codes ", " ++ operand_text c.in-Some-second.second)) (has_written_append _ _ _ _ _ _ one (c.write-in-Some-second.ensures.writes one.plain ok)))

pub returns-in-None-clause-writes : goal.returns-in-None-clause-writes
returns-in-None-clause-writes g c p ok =
    rw (c.in-Some.is, c.in-None.is) (rw (c.laid_out.ensures, padded_name) at c.in_ok-write.ensures.writes p refl)
