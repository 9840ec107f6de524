-- The number of each refusal of a reading or a writing, and its meaning. Assumes nothing.
use Rattle.std.specs.Prelude.{ℕ, List, codes}
use Rattle.codec.specs.declared.fault.ReadCause.{ReadCause}
use Rattle.codec.specs.declared.fault.ReadCause.TheVariants.{Digit, Missing, Pairing, UnknownMode, UnknownOperation}
use Rattle.codec.specs.declared.fault.ReadFault.{ReadFault}
use Rattle.codec.specs.declared.fault.WriteFault.{WriteFault}
use Rattle.codec.specs.declared.fault.WriteFault.TheVariants.{Short}

abbrev pub number_of : ReadCause → ℕ
number_of Missing = 1
number_of UnknownOperation = 2
number_of UnknownMode = 3
number_of Pairing = 4
number_of Digit = 5

-- what is wrong, in words
abbrev pub meaning : ReadCause → List ℕ
meaning Missing = codes "the next byte is missing"
meaning UnknownOperation = codes "no operation has this byte"
meaning UnknownMode = codes "no operand has this mode"
meaning Pairing = codes "no legal pairing begins so"
meaning Digit = codes "the digit is not 0"

abbrev pub write_number : WriteFault → ℕ
write_number Short = 6

-- the refusal of the byte at place p
abbrev pub fault : ReadCause → ℕ → ReadFault
fault c p = record { cause = c; place = record { offset = p } }
