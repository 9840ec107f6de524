use Rattle.std.proofs.Output.{has_written_of_eq}
use Rattle.quantity.proofs.Text.{eight_capitals}
use Rattle.quantity.proofs.write_hexadecimal.Goals as goal

pub returns : goal.returns
returns g c p ok =
    let w = rw (c.laid_out.ensures, c.in_radix.ensures) at c.write.ensures.writes in
    has_written_of_eq _ _ _ _ _ (eight_capitals _) (w p ok)
