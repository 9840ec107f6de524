-- The number and the address of each refusal of a store. Assumes nothing.
use Rattle.std.specs.Prelude.{ℕ}
use Rattle.quantity.specs.declared.Address.{Address}
use Rattle.memory.specs.declared.fault.StoreFault.{StoreFault}
use Rattle.memory.specs.declared.fault.StoreFault.TheVariants.{Absent, Fixed}

abbrev pub number_of : StoreFault → ℕ
number_of (Absent a) = 10
number_of (Fixed a) = 11

abbrev pub address_of : StoreFault → Address
address_of (Absent a) = a
address_of (Fixed a) = a

-- the same refusal at another address
abbrev pub readdressed : StoreFault → Address → StoreFault
readdressed (Absent a) b = Absent b
readdressed (Fixed a) b = Fixed b
