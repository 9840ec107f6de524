use Rattle.std.proofs.Common.{◌≡◌, drop}
use Rattle.program.specs.Programs.{program_bytes}
use Rattle.loading.specs.Laid.{laid}
use Rattle.loading.proofs.laying.lay_program.Given as goal

abbrev pub invariant-loop-instruction : goal.invariant-loop-instruction
invariant-loop-instruction g l = laid (g.S.Readable.cells l.store) l.next (program_bytes (drop l.instruction-index l.program)) ≡ laid (g.S.Readable.cells l.initial.store) l.initial.next (program_bytes l.program)
