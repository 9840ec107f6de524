-- The bytes of an instruction. Assumes nothing.
use Rattle.std.specs.Prelude.{ℕ, ◌+◌, ◌*◌, ◌/◌, ◌%◌, List, [], ◌∷◌, ◌++◌, Some, None, Option}
use Rattle.std.specs.Int.{w16}
use Rattle.std.proofs.Common.{of_z}
use Rattle.cisca.specs.Making.{Parts, parts}
use Rattle.operands.specs.Modes.{mode, mode_number}
use Rattle.cisca.specs.Table.{code}
use Rattle.cisca.specs.declared.instruction.Instruction.{Instruction}
use Rattle.operands.specs.declared.operand.Operand.{Operand}
use Rattle.operands.specs.declared.operand.Operand.TheVariants.{Direct, Immediate, Indexed, Indirect, PcRelative, Register, Relative}

-- two and four bytes, lowest first
abbrev pub two_bytes : ℕ → List ℕ
two_bytes n = n % 256 ∷ n / 256 % 256 ∷ []

abbrev pub four_bytes : ℕ → List ℕ
four_bytes n = n % 256 ∷ n / 256 % 256 ∷ n / 65536 % 256 ∷ n / 16777216 % 256 ∷ []

-- the register's number, or 0 where the mode names none
abbrev pub digit : Operand → ℕ
digit (Immediate n) = 0
digit (Register r) = r.index
digit (Direct a) = 0
digit (Indirect r) = r.index
digit (Relative r d) = r.index
digit (Indexed a r) = r.index
digit (PcRelative d) = 0

-- the mode in the high four bits, the digit in the low four
abbrev pub mode_byte : Operand → ℕ
mode_byte a = mode_number (mode a) * 16 + digit a

-- what follows the mode byte; a displacement is in two's complement
abbrev pub value_bytes : Operand → List ℕ
value_bytes (Immediate n) = four_bytes n.0
value_bytes (Register r) = []
value_bytes (Direct a) = four_bytes a.0
value_bytes (Indirect r) = []
value_bytes (Relative r d) = two_bytes (of_z w16 d.0)
value_bytes (Indexed a r) = four_bytes a.0
value_bytes (PcRelative d) = two_bytes (of_z w16 d.0)

abbrev pub operand_bytes : Operand → List ℕ
operand_bytes a = mode_byte a ∷ value_bytes a

abbrev pub bytes_if : Option Operand → List ℕ
bytes_if None = []
bytes_if (Some a) = operand_bytes a

abbrev pub part_bytes : Parts → List ℕ
part_bytes x = code x.operation ∷ (bytes_if x.first ++ bytes_if x.second)

-- the bytes of a record
abbrev pub bytes : Instruction → List ℕ
bytes i = part_bytes (parts i)
