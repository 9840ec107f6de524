-- Instructions as text. Assumes nothing.
use Rattle.std.specs.Prelude.{ℕ, List, ◌++◌, Option, Some, None, codes}
use Rattle.operands.specs.Text.{operand_text}
use Rattle.operands.specs.declared.operand.Operand.{Operand}
use Rattle.cisca.specs.Table.{letters, name}
use Rattle.cisca.specs.declared.operation.Operation.{Operation}

-- the name alone, or the name in four letters, a blank, and the operands with a comma between them
abbrev pub instruction_text : Operation → Option Operand → Option Operand → List ℕ
instruction_text o None b = name o
instruction_text o (Some a) None = letters o ++ (codes " " ++ operand_text a)
instruction_text o (Some a) (Some b) = letters o ++ (codes " " ++ (operand_text a ++ (codes ", " ++ operand_text b)))
