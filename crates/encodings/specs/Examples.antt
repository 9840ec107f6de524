-- Worked encodings. Assumes nothing.
use Rattle.std.specs.Prelude.{◌≡◌, ℕ, List, [], ◌∷◌, pos, negsuc, Some, None, Ok, Err}
use Rattle.cisca.specs.Making.{assembled}
use Rattle.operands.specs.declared.operand.Operand.TheVariants.{Immediate, Indexed, PcRelative, Register, Relative}
use Rattle.cisca.specs.declared.operation.Operation.TheVariants.{Add, Jl, Push, Xor}
use Rattle.cisca.specs.Making.{Parts}
use Rattle.codec.specs.Decoding.{Read, address, decode, number, register_of}
use Rattle.codec.specs.Encoding.{part_bytes}
use Rattle.codec.specs.Faults.{fault}
use Rattle.codec.specs.Sources.{listed}
use Rattle.codec.specs.declared.fault.ReadCause.TheVariants.{Pairing}
use Rattle.quantity.specs.Sums as sums
use Rattle.quantity.specs.declared.Displacement.{Displacement}

-- some bytes, and what they read as from the front
pub record Example : Type 0 where
  pub bytes : List ℕ
  pub reads : Read Parts

abbrev example : List ℕ → Read Parts → Example
example bs r = record { bytes = bs; reads = r }

abbrev forward : ℕ → Displacement
forward n = record { 0 = pos n }

abbrev backward : ℕ → Displacement
backward n = record { 0 = negsuc n }

abbrev pub examples : List Example
examples =
    -- PUSH R3
    example (0x11 ∷ 0x13 ∷ []) (Ok (assembled Push (Some (Register (register_of 3))) None, 2))
    -- JL, 112 bytes back
    ∷ example (0x43 ∷ 0x60 ∷ 0x90 ∷ 0xff ∷ []) (Ok (assembled Jl (Some (PcRelative (backward 111))) None, 4))
    -- XOR [R13+3F4Ah], R12
    ∷ example (0x32 ∷ 0x4d ∷ 0x4a ∷ 0x3f ∷ 0x1c ∷ []) (Ok (assembled Xor (Some (Relative (register_of 13) (forward 0x3f4a))) (Some (Register (register_of 12))), 5))
    -- ADD [8A5165F7h+R1], -4
    ∷ example (0x20 ∷ 0x51 ∷ 0xf7 ∷ 0x65 ∷ 0x51 ∷ 0x8a ∷ 0x00 ∷ 0xfc ∷ 0xff ∷ 0xff ∷ 0xff ∷ [])
    (Ok (assembled Add (Some (Indexed (address 0x8a5165f7) (register_of 1))) (Some (Immediate (number 0xfffffffc))), 11))
    -- MOV from memory to memory
    ∷ example (0x10 ∷ 0x20 ∷ 0x00 ∷ 0x01 ∷ 0x00 ∷ 0x00 ∷ 0x30 ∷ []) (Err (fault Pairing 6))
    ∷ []

-- what is accepted is written as these bytes
abbrev Written : Read Parts → List ℕ → Type 0
Written (Ok x) bs = part_bytes x.0 ≡ bs
Written (Err f) bs = Unit {0}

abbrev pub Worked : Example → Type 0
Worked e = (decode (listed e.bytes) 0 ≡ e.reads) × Written e.reads e.bytes

-- 112 bytes back from 1FF00110h is 1FF000A0h
abbrev pub BackwardJump : Type 0
BackwardJump = sums.displaced (sums.address 0x1ff00110) (backward 111) ≡ sums.address 0x1ff000a0
