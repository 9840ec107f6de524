use Rattle.std.proofs.Common.{sym, ◌∙◌}
use Rattle.std.proofs.lemmas.Bool.{ltb-true}
use Rattle.program.proofs.Comparing.{begins_decides, longer, one_reading}
use Rattle.program.proofs.compare.begins.Goals as goal

pub returns-then-is_longer : goal.returns-then-is_longer
returns-then-is_longer c = record {
  answers = longer c.args.first.now c.args.second.now (ltb-true _ _ (sym c.is_longer.ensures ∙ c.if-is_longer.true));
  one_reading = one_reading c.args.first.now c.args.second.now;
}

pub returns : goal.returns
returns c = record {
  answers = begins_decides c.args.first.now c.args.second.now c.starts_with.result c.starts_with.ensures.value;
  one_reading = one_reading c.args.first.now c.args.second.now;
}
