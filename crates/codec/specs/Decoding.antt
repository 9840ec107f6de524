-- Reading an instruction from left to right, up to the first fault. Assumes nothing.
use Rattle.std.specs.Prelude.{ℕ, zero, suc, ◌+◌, ◌/◌, ◌%◌, Bool, true, false, cond, List, [], ◌∷◌, Some, None, Ok, Err, Option, Result, ◌==◌}
use Rattle.std.proofs.Common.{arith, lt→ltb, to_z}
use Rattle.std.specs.Int.{from_le_bytes, w16, w32}
use Rattle.std.proofs.lemmas.Nat.{mod_below}
use Rattle.cisca.specs.Making.{Parts, assembled, parts}
use Rattle.operands.specs.Modes.{mode, mode_of, unregistered}
use Rattle.operands.specs.Groups.{first_fits, operand_count, second_fits}
use Rattle.cisca.specs.Table.{group, operation_of}
use Rattle.operands.specs.declared.group.Group.{Group}
use Rattle.cisca.specs.declared.instruction.Instruction.{Instruction}
use Rattle.operands.specs.declared.mode.Mode.{Mode}
use Rattle.operands.specs.declared.mode.Mode.TheVariants as m
use Rattle.operands.specs.declared.operand.Operand.{Operand}
use Rattle.operands.specs.declared.operand.Operand.TheVariants.{Direct, Immediate, Indexed, Indirect, PcRelative, Register, Relative}
use Rattle.cisca.specs.declared.operation.Operation.{Operation}
use Rattle.operands.specs.declared.register.Register as reg
use Rattle.quantity.specs.declared.Address.{Address}
use Rattle.quantity.specs.declared.Displacement.{Displacement}
use Rattle.quantity.specs.declared.Number.{Number}
use Rattle.codec.specs.Faults.{fault}
use Rattle.codec.specs.Sources.{Bytes}
use Rattle.codec.specs.declared.decode.ModeByte.{ModeByte}
use Rattle.codec.specs.declared.fault.ReadCause.TheVariants.{Digit, Missing, Pairing, UnknownMode, UnknownOperation}
use Rattle.codec.specs.declared.fault.ReadFault.{ReadFault}

-- a value and the place behind it, or a refusal
abbrev pub Read : Type 0 → Type 0
Read X = Result (X × ℕ) ReadFault

-- go on behind what was read, unless it was refused
abbrev pub after : {X Y : Type 0} → Read X → (X → ℕ → Read Y) → Read Y
after (Ok x) k = k x.0 x.1
after (Err f) k = Err f

-- go on with what is there, or refuse
abbrev pub known : {X Y : Type 0} → Option X → ReadFault → (X → Result Y ReadFault) → Result Y ReadFault
known None f k = Err f
known (Some x) f k = k x

-- go on where the test holds, or refuse
abbrev pub provided : {Y : Type 0} → Bool → ReadFault → Result Y ReadFault → Result Y ReadFault
provided true f r = r
provided false f r = Err f

-- what a byte was judged to mean, with the place behind it
abbrev pub taken : {X : Type 0} → Result X ReadFault → ℕ → Read X
taken (Ok x) q = Ok (x, q)
taken (Err f) q = Err f

abbrev pub byte_at : Bytes → ℕ → Read ℕ
byte_at s p = known (s p) (fault Missing p) λ b. Ok (b, p + 1)

-- so many bytes
abbrev pub bytes_at : ℕ → Bytes → ℕ → Read (List ℕ)
bytes_at zero s p = Ok ([], p)
bytes_at (suc n) s p = after (byte_at s p) λ b q. after (bytes_at n s q) λ bs t. Ok (b ∷ bs, t)

-- numbers of two and four bytes, lowest first
abbrev pub two_at : Bytes → ℕ → Read ℕ
two_at s p = after (bytes_at 2 s p) λ bs q. Ok (from_le_bytes w16 bs, q)

abbrev pub four_at : Bytes → ℕ → Read ℕ
four_at s p = after (bytes_at 4 s p) λ bs q. Ok (from_le_bytes w32 bs, q)

-- a byte by what it means; `judge` is told the byte and its place
abbrev pub judged_at : {X : Type 0} → (ℕ → ℕ → Result X ReadFault) → Bytes → ℕ → Read X
judged_at judge s p = after (byte_at s p) λ b q. taken (judge b p) q

-- the operation of a byte
abbrev pub judged_operation : ℕ → ℕ → Result Operation ReadFault
judged_operation b p = known (operation_of b) (fault UnknownOperation p) Ok

-- the register of the low four bits
abbrev pub register_of : ℕ → reg.Register
register_of n = record { index = n % 16; below = lt→ltb (n % 16) 16 (mod_below n 16 (omega arith)) }

-- the digit may stand beside the mode
abbrev pub clean : Mode → ℕ → Bool
clean m d = cond (unregistered m) (d == 0) true

-- what a mode byte says, where the modes that fit may stand
abbrev pub judged_mode : (Mode → Bool) → ℕ → ℕ → Result ModeByte ReadFault
judged_mode fits b p =
    known (mode_of (b / 16)) (fault UnknownMode p) λ m.
    provided (fits m) (fault Pairing p)
    (provided (clean m (b % 16)) (fault Digit p) (Ok (record { mode = m; register = register_of b })))

abbrev pub number : ℕ → Number
number n = record { 0 = n }

abbrev pub address : ℕ → Address
address n = record { 0 = n }

-- the displacement of two bytes, in two's complement
abbrev pub displacement : ℕ → Displacement
displacement n = record { 0 = to_z w16 n }

abbrev pub displacement_at : Bytes → ℕ → Read Displacement
displacement_at s p = after (two_at s p) λ n q. Ok (displacement n, q)

-- the operand of a mode and a register, whose value bytes are read
abbrev pub valued_at : Mode → reg.Register → Bytes → ℕ → Read Operand
valued_at m.Immediate r s p = after (four_at s p) λ n q. Ok (Immediate (number n), q)
valued_at m.Register r s p = Ok (Register r, p)
valued_at m.Direct r s p = after (four_at s p) λ n q. Ok (Direct (address n), q)
valued_at m.Indirect r s p = Ok (Indirect r, p)
valued_at m.Relative r s p = after (two_at s p) λ n q. Ok (Relative r (displacement n), q)
valued_at m.Indexed r s p = after (four_at s p) λ n q. Ok (Indexed (address n) r, q)
valued_at m.PcRelative r s p = after (two_at s p) λ n q. Ok (PcRelative (displacement n), q)

abbrev pub operand_at : (Mode → Bool) → Bytes → ℕ → Read Operand
operand_at fits s p = after (judged_at (judged_mode fits) s p) λ t q. valued_at t.mode t.register s q

-- the modes that may stand here: at first, or behind an operand of the mode before
abbrev pub fits_behind : Group → Option Mode → Mode → Bool
fits_behind g None n = first_fits g n
fits_behind g (Some m) n = second_fits g m n

abbrev pub Operands : Type 0
Operands = Option Operand × Option Operand

abbrev pub one_at : Group → Bytes → ℕ → Read Operands
one_at g s p = after (operand_at (fits_behind g None) s p) λ a q. Ok ((Some a, None), q)

abbrev pub pair_at : Group → Bytes → ℕ → Read Operands
pair_at g s p =
    after (operand_at (fits_behind g None) s p) λ a q.
    after (operand_at (fits_behind g (Some (mode a))) s q) λ b t. Ok ((Some a, Some b), t)

-- as many operands as the group has
abbrev pub operands_at : Group → Bytes → ℕ → Read Operands
operands_at g s p =
    cond (operand_count g == 0) (Ok ((None, None), p))
    (cond (operand_count g == 1) (one_at g s p) (pair_at g s p))

-- the instruction at a place
abbrev pub decode : Bytes → ℕ → Read Parts
decode s p =
    after (judged_at judged_operation s p) λ o q.
    after (operands_at (group o) s q) λ os t. Ok (assembled o os.0 os.1, t)

-- an answer, with the record by its parts
abbrev pub read_parts : Result (Instruction × ℕ) ReadFault → Read Parts
read_parts (Ok x) = Ok (parts x.0, x.1)
read_parts (Err f) = Err f
