-- What a cursor reads, one thing behind another. Assumes nothing.
use Rattle.std.proofs.Common.{◌≡◌, Some, Ok, Err, Option, Result, refl, ap, ◌∙◌, subst}
use Rattle.std.specs.Prelude.{IsOk}
use Rattle.cisca.specs.Making.{Parts, assembled, made, making, parts}
use Rattle.cisca.specs.Table.{group}
use Rattle.cisca.specs.declared.instruction.Instruction.{Instruction}
use Rattle.cisca.specs.declared.instruction.making.MakingFault.{MakingFault}
use Rattle.cisca.specs.declared.operation.Operation.{Operation}
use Rattle.operands.specs.Modes.{mode}
use Rattle.operands.specs.declared.group.Group.{Group}
use Rattle.operands.specs.declared.mode.Mode.{Mode}
use Rattle.operands.specs.declared.operand.Operand.{Operand}
use Rattle.codec.proofs.Instructions.{decode_then, read_made}
use Rattle.codec.specs.Cursors.{Reads}
use Rattle.codec.specs.Decoding.{decode, fits_behind, judged_at, judged_operation, operand_at, operands_at}
use Rattle.codec.specs.Sources.{Bytes, Small}
use Rattle.codec.specs.declared.decode.Cursor.{Cursor}
use Rattle.codec.specs.declared.fault.ReadFault.{ReadFault}

-- an operand behind one of this mode is one behind the operand
pub behind_operand :
    {S : Type 0} (shows : S → Bytes) (g : Group) (first : Operand) (m : Mode) (old new : Cursor S) (r : Result Operand ReadFault) → m ≡ mode first → Reads shows (operand_at (fits_behind g (Some m))) old new r
    → Reads shows (operand_at (fits_behind g (Some (mode first)))) old new r
behind_operand shows g first m old new r e h = subst (λ (m : Mode). Reads shows (operand_at (fits_behind g (Some m))) old new r) e h

-- an operation, then its operands
module _
    {S : Type 0}
    (shows : S → Bytes)
    (small : (s : S) → Small (shows s))
    (old mid new : Cursor S)
    (o : Operation)
    (g : Group)
    (a b : Option Operand)
    (e : g ≡ group o)
    (h : Reads shows (judged_at judged_operation) old mid (Ok o))
    (k : Reads shows (operands_at g) mid new (Ok (a, b)))
  where
    behind : Ok ((a, b), new.place.offset) ≡ operands_at (group o) (shows old.source.now) mid.place.offset
    behind = k.reads ∙ λ i. operands_at (e i) (shows (h.same i).now) mid.place.offset

    made_ok : (r : Result Instruction MakingFault) → made r ≡ Ok (assembled o a b) → IsOk r
    made_ok (Ok i) e = refl
    made_ok (Err f) e = cc

    module _ (r : Result Instruction MakingFault) (m : made r ≡ making o a b) where
      made_is : made r ≡ Ok (assembled o a b)
      made_is = m ∙ read_made o (shows old.source.now) mid.place.offset a b new.place.offset (small old.source.now) behind

      -- they make a record
      pub instruction_made : IsOk r
      instruction_made = made_ok r made_is

      parts_are : (i : Instruction) → r ≡ Ok i → parts i ≡ assembled o a b
      parts_are i f = cc (ap made f, made_is)

      -- which is the one that is read
      pub instruction_read : (i : Instruction) → r ≡ Ok i → Ok (parts i, new.place.offset) ≡ decode (shows old.source.now) old.place.offset
      instruction_read i f =
          ap (λ (x : Parts). Ok (x, new.place.offset)) (parts_are i f)
          ∙ decode_then (shows old.source.now) old.place.offset o mid.place.offset a b new.place.offset h.reads behind
