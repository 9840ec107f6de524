use Rattle.program.proofs.Writing.{Measuring}
use Rattle.program.proofs.write.measure.Given as goal

abbrev pub invariant-loop-instruction : goal.invariant-loop-instruction
invariant-loop-instruction l = Measuring l.program l.room l.instruction-index l.left
