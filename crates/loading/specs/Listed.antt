-- The program of a layout. Assumes nothing.
use Rattle.std.specs.Prelude.{List, vec_items}
use Rattle.cisca.specs.declared.instruction.Instruction.{Instruction}
use Rattle.loading.specs.Layouts.{listed_records}
use Rattle.loading.specs.declared.layout.Layout.{Layout}

-- the records in it, in order
abbrev pub program_of : Layout → List Instruction
program_of l = listed_records (vec_items l.records)
