use Rattle.std.proofs.Common.{vec_items, ◌∙◌}
use Rattle.loading.proofs.Offsets.{starting_at}
use Rattle.loading.proofs.layout.Layout.starting.Goals as goal

pub returns : goal.returns
returns c = let l = c.args.self.now in c.row.ensures ∙ starting_at (vec_items l.records) c.args.offset l.lays
