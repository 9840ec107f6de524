-- Which modes an operand group takes. Assumes nothing.
use Rattle.std.specs.Prelude.{ℕ, Bool, false, ◌&&◌, ◌||◌, Some, None, Option, ◌==◌}
use Rattle.operands.specs.Modes.{immediate, memory, pc_relative, register}
use Rattle.operands.specs.declared.group.Group.{Group}
use Rattle.operands.specs.declared.group.Group.TheVariants.{Bare, Inward, Jump, Outward, Pair, Single, Target}
use Rattle.operands.specs.declared.mode.Mode.{Mode}

-- how many operands
abbrev pub operand_count : Group → ℕ
operand_count Bare = 0
operand_count Single = 1
operand_count Pair = 2
operand_count Target = 1
operand_count Jump = 1
operand_count Inward = 2
operand_count Outward = 2

-- a legal pairing begins with this mode
abbrev pub first_fits : Group → Mode → Bool
first_fits Bare a = false
first_fits Single a = register a || memory a
first_fits Pair a = register a || memory a
first_fits Target a = immediate a
first_fits Jump a = pc_relative a
first_fits Inward a = register a
first_fits Outward a = memory a

-- the second mode may follow the first
abbrev pub second_fits : Group → Mode → Mode → Bool
second_fits Bare a b = false
second_fits Single a b = false
second_fits Pair a b = (immediate b || register b) || (register a && memory b)
second_fits Target a b = false
second_fits Jump a b = false
second_fits Inward a b = memory b
second_fits Outward a b = register b

-- these modes, present or absent, go with the group
abbrev pub grouped : Group → Option Mode → Option Mode → Bool
grouped g None None = operand_count g == 0
grouped g None (Some b) = false
grouped g (Some a) None = operand_count g == 1 && first_fits g a
grouped g (Some a) (Some b) = operand_count g == 2 && (first_fits g a && second_fits g a b)
