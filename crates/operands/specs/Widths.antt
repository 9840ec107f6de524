-- The quantities of an operand fit their widths. Assumes nothing.
use Rattle.std.specs.Prelude.{◌^◌, Bool, true, ℤ, pos, negsuc, Some, None, Option, nat_lt}
use Rattle.operands.specs.declared.operand.Operand.{Operand}
use Rattle.operands.specs.declared.operand.Operand.TheVariants.{Direct, Immediate, Indexed, Indirect, PcRelative, Register, Relative}

-- from -32,768 to 32,767
abbrev pub short : ℤ → Bool
short (pos n) = nat_lt n (2 ^ 15)
short (negsuc n) = nat_lt n (2 ^ 15)

abbrev pub within : Operand → Bool
within (Immediate n) = nat_lt n.0 (2 ^ 32)
within (Register r) = true
within (Direct a) = nat_lt a.0 (2 ^ 32)
within (Indirect r) = true
within (Relative r d) = short d.0
within (Indexed a r) = nat_lt a.0 (2 ^ 32)
within (PcRelative d) = short d.0

abbrev pub all_within : Option Operand → Bool
all_within None = true
all_within (Some a) = within a
