-- What a call on a memory answers. Assumes nothing.
use Rattle.std.specs.Prelude.{ℕ, ◌-◌, cond, Ok, Err, Result}
use Rattle.quantity.specs.declared.Address.{Address}
use Rattle.memory.specs.declared.fault.StoreFault.{StoreFault}
use Rattle.memory.specs.declared.fault.StoreFault.TheVariants.{Absent, Fixed}
use Rattle.memory.specs.Cells.{Cell, fixed, free, nothing, within}

-- what a reading at a answers
abbrev pub reading : Cell → Address → Result ℕ StoreFault
reading nothing a = Err (Absent a)
reading (free b) a = Ok b
reading (fixed b) a = Ok b

-- what a writing at a answers
abbrev pub writing : Cell → Address → Result (Unit {0}) StoreFault
writing nothing a = Err (Absent a)
writing (free _) a = Ok tt
writing (fixed _) a = Err (Fixed a)

-- what a writing of b at a answers, with the byte that is then read
abbrev pub verified : Cell → ℕ → Address → Result ℕ StoreFault
verified nothing b a = Err (Absent a)
verified (free _) b a = Ok b
verified (fixed _) b a = Err (Fixed a)

-- which of n bytes from `base` on stands at a
abbrev pub finding : ℕ → ℕ → Address → Result ℕ StoreFault
finding base n a = cond (within base n a.0) (Ok (a.0 - base)) (Err (Absent a))
