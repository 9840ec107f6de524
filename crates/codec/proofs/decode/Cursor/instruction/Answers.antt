use Rattle.codec.proofs.Cursors.{instruction_made, instruction_read}
use Rattle.codec.proofs.decode.Cursor.instruction.Goals as goal

pub unwrap-requires : goal.unwrap-requires
unwrap-requires g c = instruction_made g.S.Source.shows g.S.Source.small _ _ _ _ _ _ _ c.group.ensures c.in_ok-operation.ensures c.in_ok-first.ensures _ c.new.ensures

pub returns-clause-reads : goal.returns-clause-reads
returns-clause-reads g c =
    instruction_read g.S.Source.shows g.S.Source.small _ _ _ _ _ _ _ c.group.ensures c.in_ok-operation.ensures c.in_ok-first.ensures _ c.new.ensures
    c.unwrap.result c.unwrap.ensures
