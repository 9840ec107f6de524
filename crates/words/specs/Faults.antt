-- The refusal of a word, by its first byte that cannot be read or written. Assumes nothing.
use Rattle.std.specs.Prelude.{ℕ}
use Rattle.memory.specs.Faults as store
use Rattle.memory.specs.declared.fault.StoreFault.{StoreFault}
use Rattle.quantity.specs.declared.Address.{Address}
use Rattle.words.specs.declared.fault.WordFault.{WordFault}

abbrev pub by_byte : StoreFault → WordFault
by_byte f = record { byte = f }

abbrev pub number_of : WordFault → ℕ
number_of f = store.number_of f.byte

abbrev pub address_of : WordFault → Address
address_of f = store.address_of f.byte
