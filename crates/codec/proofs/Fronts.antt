-- Bytes at the front of a byte string. Assumes nothing.
use Rattle.std.proofs.Common.{◌≡◌, ℕ, ◌+◌, ◌%◌, ◌<◌, List, [], ◌∷◌, ◌++◌, length, get_or, Some, None, Ok, Option, refl, ap, ◌∙◌, subst, append_assoc, mod-eq_of_lt, arith, length-append, w16, of_z}
use Rattle.std.proofs.lemmas.List.{get_or_at, length_push}
use Rattle.std.proofs.lemmas.Bool.{cond-true, lt-ltb}
use Rattle.cisca.proofs.Codes.{code_small}
use Rattle.cisca.specs.Making.{parts}
use Rattle.cisca.specs.declared.instruction.Instruction.{Instruction}
use Rattle.operands.specs.declared.operand.Operand.{Operand}
use Rattle.operands.specs.declared.operand.Operand.TheVariants.{Direct, Immediate, Indexed, Indirect, PcRelative, Register, Relative}
use Rattle.codec.specs.Encoding.{bytes, bytes_if, operand_bytes}
use Rattle.codec.specs.Laws.{Lies, ReadFromFront}
use Rattle.codec.specs.Sources.{listed}
use Rattle.codec.proofs.Laws.{reads_back}
use Rattle.codec.proofs.Operands.{index_low}
pub use Rattle.codec.proofs.Numbers.{AllSmall}
use Rattle.codec.proofs.Numbers.{four_small, two_small}

pub small_append : (xs ys : List ℕ) → AllSmall xs → AllSmall ys → AllSmall (xs ++ ys)
small_append [] ys h k = k
small_append (x ∷ xs) ys h k = (h.0, small_append xs ys h.1 k)

-- small bytes lie where they stand in a byte string
pub lies_listed : (pre bs t : List ℕ) (p : ℕ) → length pre ≡ p → AllSmall bs → Lies (listed (pre ++ (bs ++ t))) p bs
lies_listed pre [] t p e h = tt
lies_listed pre (b ∷ bs) t p e h =
    let l = pre ++ (b ∷ (bs ++ t)) in
    let within : p < length l = omega (arith, length-append pre (b ∷ (bs ++ t))) in
    let value : get_or l p 0 % 256 ≡ b = ap (λ (x : ℕ). x % 256) (get_or_at pre b (bs ++ t) 0 p e) ∙ mod-eq_of_lt h.0 in
    let move : (pre ++ b ∷ []) ++ (bs ++ t) ≡ l = append_assoc pre (b ∷ []) (bs ++ t) in (
      cond-true _ _ _ (lt-ltb p (length l) within) ∙ ap Some value,
      subst (λ (l : List ℕ). Lies (listed l) (p + 1) bs) move (lies_listed (pre ++ b ∷ []) bs t (p + 1) (length_push pre b ∙ ap (λ (n : ℕ). n + 1) e) h.1),
    )

operand_small : (a : Operand) → AllSmall (operand_bytes a)
operand_small (Immediate n) = (omega arith, four_small n.0)
operand_small (Register r) = (omega (arith, index_low r), tt)
operand_small (Direct a) = (omega arith, four_small a.0)
operand_small (Indirect r) = (omega (arith, index_low r), tt)
operand_small (Relative r d) = (omega (arith, index_low r), two_small (of_z w16 d.0))
operand_small (Indexed a r) = (omega (arith, index_low r), four_small a.0)
operand_small (PcRelative d) = (omega arith, two_small (of_z w16 d.0))

small_if : (o : Option Operand) → AllSmall (bytes_if o)
small_if None = tt
small_if (Some a) = operand_small a

-- the bytes of a record are bytes
pub bytes_small : (i : Instruction) → AllSmall (bytes i)
bytes_small i = (code_small i.operation, small_append (bytes_if i.first) (bytes_if i.second) (small_if i.first) (small_if i.second))

pub read_from_front : (i : Instruction) → ReadFromFront i
read_from_front i t =
    let start : 0 + length (bytes i) ≡ length (bytes i) = omega arith in
    reads_back i (listed (bytes i ++ t)) 0 (lies_listed [] (bytes i) t 0 refl (bytes_small i)) ∙ ap (λ (q : ℕ). Ok (parts i, q)) start
