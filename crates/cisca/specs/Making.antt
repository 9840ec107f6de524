-- The making of a record. Assumes nothing.
use Rattle.std.specs.Prelude.{ℕ, cond, Ok, Err, Option, Result}
use Rattle.cisca.specs.declared.instruction.Instruction.{Instruction}
use Rattle.cisca.specs.declared.instruction.making.MakingFault.{MakingFault}
use Rattle.cisca.specs.declared.instruction.making.MakingFault.TheVariants.{Illegal}
use Rattle.operands.specs.declared.operand.Operand.{Operand}
use Rattle.cisca.specs.declared.operation.Operation.{Operation}
use Rattle.cisca.specs.Legality.{pairing}

abbrev pub number_of : MakingFault → ℕ
number_of Illegal = 4

-- an operation with its operands, legal or not: a record is known by its parts
pub record Parts : Type 0 where
  pub operation : Operation
  pub first : Option Operand
  pub second : Option Operand

abbrev pub assembled : Operation → Option Operand → Option Operand → Parts
assembled o a b = record { operation = o; first = a; second = b }

abbrev pub parts : Instruction → Parts
parts i = assembled i.operation i.first i.second

-- what the making answers: the record of just these parts, or a refusal of the pairing
abbrev pub making : Operation → Option Operand → Option Operand → Result Parts MakingFault
making o a b = cond (pairing o a b) (Ok (assembled o a b)) (Err Illegal)

-- an answer, with the record by its parts
abbrev pub made : Result Instruction MakingFault → Result Parts MakingFault
made (Ok i) = Ok (parts i)
made (Err f) = Err f
