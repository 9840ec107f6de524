use Rattle.std.proofs.Common.{◌-◌}
use Rattle.program.proofs.Reading.{Counting}
use Rattle.program.proofs.read.count.Given as goal

abbrev pub invariant-loop-place : goal.invariant-loop-place
invariant-loop-place g l = Counting (g.S.Source.shows l.source) (g.S.Source.extent l.source) l.place.offset l.n

abbrev pub decreases-loop-place : goal.decreases-loop-place
decreases-loop-place g l = g.S.Source.extent l.source - l.place.offset
