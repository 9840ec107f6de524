use Rattle.actions.proofs.Legal.{acts}
use Rattle.actions.proofs.taking.action_of.Goals as goal

pub unwrap-requires : goal.unwrap-requires
unwrap-requires c =
    acts c.args.instruction.now c.operation.result c.first.result c.second.result c.taken_by.result
    c.operation.ensures c.first.ensures c.second.ensures c.taken_by.ensures
