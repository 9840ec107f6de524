-- The modes of an operand, and their numbers. Assumes nothing.
use Rattle.std.specs.Prelude.{◌≡◌, ℕ, Bool, true, false, List, [], ◌∷◌, Some, None, Option, Result, MatchResult, ◌==◌}
use Rattle.std.specs.List.{find}
use Rattle.operands.specs.declared.mode.Mode.{Mode}
use Rattle.operands.specs.declared.mode.Mode.TheVariants as m
use Rattle.operands.specs.declared.mode.UnknownMode.{UnknownMode}
use Rattle.operands.specs.declared.operand.Operand.{Operand}
use Rattle.operands.specs.declared.operand.Operand.TheVariants.{Direct, Immediate, Indexed, Indirect, PcRelative, Register, Relative}

abbrev pub mode : Operand → Mode
mode (Immediate n) = m.Immediate
mode (Register r) = m.Register
mode (Direct a) = m.Direct
mode (Indirect r) = m.Indirect
mode (Relative r d) = m.Relative
mode (Indexed a r) = m.Indexed
mode (PcRelative d) = m.PcRelative

abbrev pub modes : List Mode
modes = m.Immediate ∷ m.Register ∷ m.Direct ∷ m.Indirect ∷ m.Relative ∷ m.Indexed ∷ m.PcRelative ∷ []

abbrev pub mode_number : Mode → ℕ
mode_number m.Immediate = 0
mode_number m.Register = 1
mode_number m.Direct = 2
mode_number m.Indirect = 3
mode_number m.Relative = 4
mode_number m.Indexed = 5
mode_number m.PcRelative = 6

-- the mode of this number
abbrev pub mode_of : ℕ → Option Mode
mode_of n = find (λ x. mode_number x == n) modes

-- the answer is the mode of this number, or a refusal of a number that has none
abbrev pub ModeOf : ℕ → Result Mode UnknownMode → Type 0
ModeOf n r = MatchResult r (λ x. mode_of n ≡ Some x) (λ e. (mode_of n ≡ None) × (e.0 ≡ n))

abbrev pub immediate : Mode → Bool
immediate m.Immediate = true
immediate m.Register = false
immediate m.Direct = false
immediate m.Indirect = false
immediate m.Relative = false
immediate m.Indexed = false
immediate m.PcRelative = false

abbrev pub register : Mode → Bool
register m.Immediate = false
register m.Register = true
register m.Direct = false
register m.Indirect = false
register m.Relative = false
register m.Indexed = false
register m.PcRelative = false

-- a place in memory
abbrev pub memory : Mode → Bool
memory m.Immediate = false
memory m.Register = false
memory m.Direct = true
memory m.Indirect = true
memory m.Relative = true
memory m.Indexed = true
memory m.PcRelative = false

abbrev pub pc_relative : Mode → Bool
pc_relative m.Immediate = false
pc_relative m.Register = false
pc_relative m.Direct = false
pc_relative m.Indirect = false
pc_relative m.Relative = false
pc_relative m.Indexed = false
pc_relative m.PcRelative = true

-- no register: the digit of the mode byte is 0
abbrev pub unregistered : Mode → Bool
unregistered m.Immediate = true
unregistered m.Register = false
unregistered m.Direct = true
unregistered m.Indirect = false
unregistered m.Relative = false
unregistered m.Indexed = false
unregistered m.PcRelative = true
