use Rattle.std.proofs.Common.{arith}
use Rattle.ports.proofs.Rooms.{port_after}
use Rattle.ports.proofs.mapped.MappedPorts.set.Goals as goal

pub returns-clause-after : goal.returns-clause-after
returns-clause-after g c =
    let s = c.args.self.now in
    let cells = g.S.Readable.cells in
    port_after (cells s.store) (cells c.write_word.new.store) s.base c.in_ok-at.at c.args.port c.args.word.0 s.count
    (omega arith) c.in_ok-at.ensures c.write_word.ensures.after
