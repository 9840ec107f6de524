use Rattle.std.proofs.Common.{◌-◌, length}
use Rattle.readback.proofs.list.Given as goal

abbrev pub decreases-loop-reader : goal.decreases-loop-reader
decreases-loop-reader g l = length l.reader.source.0.now - l.reader.place.offset
