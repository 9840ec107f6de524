use Rattle.program.proofs.Writing.{Laying}
use Rattle.program.proofs.write.write_program.Given as goal

abbrev pub invariant-loop-instruction : goal.invariant-loop-instruction
invariant-loop-instruction l = Laying l.program l.initial.out l.out l.instruction-index l.at
