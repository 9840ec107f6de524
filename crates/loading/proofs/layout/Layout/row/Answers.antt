use Rattle.std.proofs.Common.{None, vec_items, sym, arith}
use Rattle.std.proofs.lemmas.List.{get_or_past}
use Rattle.loading.proofs.layout.Layout.row.Goals as goal

pub returns-else-offset-len : goal.returns-else-offset-len
returns-else-offset-len c = sym (get_or_past (vec_items c.args.self.now.records) c.args.offset None (omega (arith, c.if-offset-len.false, c.len.ensures)))
