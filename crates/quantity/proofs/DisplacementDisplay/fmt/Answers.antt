use Rattle.std.proofs.Output.{has_written_of_eq}
use Rattle.quantity.proofs.Text.{with_plus}
use Rattle.quantity.proofs.DisplacementDisplay.fmt.Goals as goal

pub returns-clause-writes : goal.returns-clause-writes
returns-clause-writes g c p ok =
    let w = rw c.laid_out.ensures at c.write.ensures.writes in
    has_written_of_eq _ _ _ _ _ (with_plus _) (w p ok)
