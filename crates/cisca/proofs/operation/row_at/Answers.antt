use Rattle.std.proofs.Common.{refl}
use Rattle.cisca.proofs.Rows.{row_at}
use Rattle.cisca.proofs.operation.row_at.Goals as goal

pub returns : goal.returns
returns c = row_at _ _ _ _ c.table.ensures.rows refl c.requires
