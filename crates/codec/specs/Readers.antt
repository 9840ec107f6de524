-- What a reader with a place answers, and where it then stands. Assumes nothing.
use Rattle.std.specs.Prelude.{ℕ, Bool, true, false, Some, None, Ok, Err, Option, Result}
use Rattle.cisca.specs.Making.{Parts, parts}
use Rattle.cisca.specs.declared.instruction.Instruction.{Instruction}
use Rattle.codec.specs.Decoding.{Read, decode}
use Rattle.codec.specs.Sources.{Bytes}
use Rattle.codec.specs.declared.fault.ReadFault.{ReadFault}

abbrev pub answer_of : Read Parts → Result Parts ReadFault
answer_of (Ok x) = Ok x.0
answer_of (Err f) = Err f

-- the instruction at the place p, or its refusal
abbrev pub answer : Bytes → ℕ → Result Parts ReadFault
answer s p = answer_of (decode s p)

abbrev pub place_of : ℕ → Read Parts → ℕ
place_of p (Ok x) = x.1
place_of p (Err f) = p

-- the place after the reading at p: behind the instruction, or p where it is refused
abbrev pub place_after : Bytes → ℕ → ℕ
place_after s p = place_of p (decode s p)

-- a reading's answer, with the record by its parts
abbrev pub read : Result Instruction ReadFault → Result Parts ReadFault
read (Ok i) = Ok (parts i)
read (Err f) = Err f

-- no byte is there
abbrev pub ended : Option ℕ → Bool
ended None = true
ended (Some b) = false
