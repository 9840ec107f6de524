use Rattle.readback.proofs.Moves.{moves}
use Rattle.readback.proofs.list.Goals as goal

pub loop-reader-smaller : goal.loop-reader-smaller
loop-reader-smaller g c = moves c.loop-reader.reader c.next.new.self c.in-Ok.instruction c.in-Ok.ensures.same c.in-Ok.ensures.writes_back
