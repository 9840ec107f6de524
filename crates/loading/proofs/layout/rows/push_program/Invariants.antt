use Rattle.std.proofs.Common.{◌≡◌, ◌+◌, ◌≤◌, ◌++◌, length, take, vec_items, vec_len, vec_capacity}
use Rattle.program.specs.Programs.{program_bytes}
use Rattle.loading.specs.Layouts.{laid_out}
use Rattle.loading.proofs.layout.rows.push_program.Given as goal

abbrev pub invariant-loop-instruction : goal.invariant-loop-instruction
invariant-loop-instruction l = record {
  items : vec_items l.rows ≡ vec_items l.initial.rows ++ laid_out (take l.instruction-index l.program);
  capacity : vec_capacity l.initial.rows ≤ vec_capacity l.rows;
  room : vec_len l.rows ≡ vec_len l.initial.rows + length (program_bytes (take l.instruction-index l.program));
}
