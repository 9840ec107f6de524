use Rattle.program.proofs.Filling.{Filling}
use Rattle.program.proofs.read.read_program.Given as goal

abbrev pub invariant-loop-slot : goal.invariant-loop-slot
invariant-loop-slot g l = Filling (g.S.Source.shows l.source) (g.S.Source.extent l.source) l.slot-items l.place.offset l.slot-index l.n
