-- A mode is told by its number. Assumes nothing.
use Rattle.std.proofs.Common.{◌≡◌, ℕ, Some, arith}
use Rattle.operands.specs.Modes.{mode_number, mode_of}
use Rattle.operands.specs.declared.mode.Mode.{Mode}

pub number_finds : (x : Mode) → mode_of (mode_number x) ≡ Some x
number_finds x = grind arith

-- the mode that a number finds has it
pub mode_found : (n : ℕ) (y : Mode) → mode_of n ≡ Some y → mode_number y ≡ n
mode_found n y e = grind arith
