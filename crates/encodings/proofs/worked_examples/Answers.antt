use Rattle.std.proofs.Common.{refl}
use Rattle.encodings.proofs.worked_examples.Goals as goal

pub returns : goal.returns
returns c = record {
  count = refl;
  proved = ((refl, refl), ((refl, refl), ((refl, refl), ((refl, refl), ((refl, tt), tt)))));
  backward = refl;
}
