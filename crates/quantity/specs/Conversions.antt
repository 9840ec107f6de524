-- One quantity taken for another: the same number, as another type. Assumes nothing.
use Rattle.quantity.specs.declared.Address.{Address}
use Rattle.quantity.specs.declared.Number.{Number}
use Rattle.quantity.specs.declared.Port.{Port}

-- the address that a word holds
abbrev pub address_of : Number → Address
address_of n = record { 0 = n.0 }

-- the word that an address is stored as
abbrev pub number_of : Address → Number
number_of a = record { 0 = a.0 }

-- the port whose number is an address
abbrev pub port_of : Address → Port
port_of a = record { 0 = a.0 }
