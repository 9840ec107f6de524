-- Operands as text. Assumes nothing.
use Rattle.std.specs.Prelude.{ℕ, List, ◌++◌, codes}
use Rattle.std.specs.Fmt.{decimal}
use Rattle.quantity.specs.Text.{hexadecimal, with_sign}
use Rattle.operands.specs.declared.operand.Operand.{Operand}
use Rattle.operands.specs.declared.operand.Operand.TheVariants.{Direct, Immediate, Indexed, Indirect, PcRelative, Register, Relative}
use Rattle.operands.specs.declared.register.Register as reg

abbrev pub register_text : reg.Register → List ℕ
register_text r = codes "R" ++ decimal r.index

-- in square brackets stands what is in memory
abbrev pub operand_text : Operand → List ℕ
operand_text (Immediate n) = hexadecimal n.0
operand_text (Register r) = register_text r
operand_text (Direct a) = codes "[" ++ (hexadecimal a.0 ++ codes "]")
operand_text (Indirect r) = codes "[" ++ (register_text r ++ codes "]")
operand_text (Relative r d) = codes "[" ++ (register_text r ++ (with_sign d.0 ++ codes "]"))
operand_text (Indexed a r) = codes "[" ++ (hexadecimal a.0 ++ (codes "+" ++ (register_text r ++ codes "]")))
operand_text (PcRelative d) = codes "PC" ++ with_sign d.0
