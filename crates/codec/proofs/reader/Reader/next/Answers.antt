use Rattle.std.proofs.Common.{refl}
use Rattle.codec.proofs.Laws.{first_fault_next, reads_back_next, writes_back_next}
use Rattle.codec.proofs.reader.Reader.next.Goals as goal

pub returns : goal.returns
returns g c =
    let source = c.args.self.now.source in
    let s = g.S.Source.shows source in
    let p = c.args.self.now.place.offset in
    let answers = c.read_next.ensures.answers in
    let moves = c.read_next.ensures.moves in
    record {
      answers = answers;
      moves = moves;
      same = refl;
      reads_back = reads_back_next s p c.read_next.result answers;
      writes_back = writes_back_next s p c.read_next.new.place.offset c.read_next.result (g.S.Source.small source) answers moves;
      stops_at_first_fault = first_fault_next s p c.read_next.result (g.S.Source.small source) answers;
    }
