-- The legal pairings of an operation with the modes of its operands. Assumes nothing.
use Rattle.std.specs.Prelude.{Bool, List, ◌∷◌, map, Some, None, Option}
use Rattle.std.specs.List.{filter, flat_map}
use Rattle.operands.specs.Groups.{grouped}
use Rattle.operands.specs.Modes.{modes}
use Rattle.operands.specs.declared.mode.Mode.{Mode}
use Rattle.cisca.specs.Table.{group, operations}
use Rattle.cisca.specs.declared.operation.Operation.{Operation}

-- an operation with the modes of its operands
pub record Pairing : Type 0 where
  pub operation : Operation
  pub first : Option Mode
  pub second : Option Mode

abbrev pub legal_pairing : Pairing → Bool
legal_pairing p = grouped (group p.operation) p.first p.second

abbrev perhaps : List (Option Mode)
perhaps = None ∷ map Some modes

-- every operation with every choice of modes
abbrev every_pairing : List Pairing
every_pairing = flat_map (λ o. flat_map (λ a. map (λ b. record { operation = o; first = a; second = b }) perhaps) perhaps) operations

-- the legal pairings of an operation with its modes
abbrev pub legal_pairings : List Pairing
legal_pairings = filter legal_pairing every_pairing
