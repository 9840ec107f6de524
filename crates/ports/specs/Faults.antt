-- The number and the port of each refusal of a bank. Assumes nothing.
use Rattle.std.specs.Prelude.{ℕ}
use Rattle.ports.specs.declared.fault.PortFault.{PortFault}
use Rattle.ports.specs.declared.fault.PortFault.TheVariants.{Absent}
use Rattle.quantity.specs.declared.Port.{Port}

abbrev pub number_of : PortFault → ℕ
number_of (Absent p) = 12

abbrev pub port_of : PortFault → Port
port_of (Absent p) = p
