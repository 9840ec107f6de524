-- Which operands an operation takes. Assumes nothing.
use Rattle.std.specs.Prelude.{Bool, Option, option_map}
use Rattle.operands.specs.declared.mode.Mode.{Mode}
use Rattle.operands.specs.declared.operand.Operand.{Operand}
use Rattle.cisca.specs.declared.operation.Operation.{Operation}
use Rattle.operands.specs.Modes.{mode}
use Rattle.cisca.specs.Pairings.{legal_pairing}

-- the mode of an operand, if there is one
abbrev pub mode_if : Option Operand → Option Mode
mode_if = option_map mode

-- the operation takes these operands
abbrev pub pairing : Operation → Option Operand → Option Operand → Bool
pairing o a b = legal_pairing (record { operation = o; first = mode_if a; second = mode_if b })
