use Rattle.std.proofs.Common.{◌≡◌, ◌∙◌, rules}
use Rattle.cisca.specs.Table.{operation_of}
use Rattle.cisca.proofs.Rows.{row_found}
use Rattle.cisca.proofs.operation.OperationTryFromU8.try_from.Goals as goal

pub returns : goal.returns
returns c =
    let found : c.first_with.result ≡ operation_of c.args.byte = c.first_with.ensures ∙ row_found _ _ c.table.ensures.rows c.table.ensures.operations in
    search rules
