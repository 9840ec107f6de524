-- The laws of one instruction's bytes. Assumes nothing.
use Rattle.std.proofs.Common.{◌≡◌, ℕ, ◌+◌, ◌<◌, ◌⊎◌, List, [], ◌∷◌, ◌++◌, length, None, Ok, Err, Result, sym, refl, ap, ◌∙◌, subst, inl, inr, append-nil, arith, length-append}
use Rattle.cisca.proofs.Same.{Legal, record_legal, record_of, same_instruction}
use Rattle.cisca.specs.Making.{Parts, parts}
use Rattle.cisca.specs.declared.instruction.Instruction.{Instruction}
use Rattle.codec.specs.Decoding.{Read, decode}
use Rattle.codec.specs.Encoding.{bytes, part_bytes}
use Rattle.codec.specs.Laws.{Barred, FirstFault, Lies, ReadsBack, Stops, StopsAtFirstFault, WritesBack}
use Rattle.codec.specs.Readers.{answer, answer_of, place_after, place_of, read}
use Rattle.codec.specs.Sources.{Bytes, Small}
use Rattle.codec.specs.declared.fault.ReadCause.{ReadCause}
use Rattle.codec.specs.declared.fault.ReadCause.TheVariants.{Digit, Missing, Pairing, UnknownMode, UnknownOperation}
use Rattle.codec.specs.declared.fault.ReadFault.{ReadFault}
use Rattle.codec.proofs.Exact.{Bars, not_both, un_ok}
use Rattle.codec.proofs.Instructions.{decode_exact}
use Rattle.codec.proofs.Prefixes.{past_is}

-- a record's bytes read as the record, whatever follows
pub reads_back : (i : Instruction) (s : Bytes) (p : ℕ) → Lies s p (bytes i) → decode s p ≡ Ok (parts i, p + length (bytes i))
reads_back i s p h = decode_exact.takes (parts i) s p (record_legal i) h ∙ ap (λ (q : ℕ). Ok (parts i, q)) (past_is p (bytes i))

-- accepted bytes are those of what they are read as
pub writes_back : (s : Bytes) (p : ℕ) (x : Parts) (q : ℕ) → Small s → decode s p ≡ Ok (x, q) → Lies s p (part_bytes x) × (q ≡ p + length (part_bytes x))
writes_back s p x q w e = let g = decode_exact.gave s p x q w e in (g.1, g.2 ∙ past_is p (part_bytes x))

-- what begins a record's bytes and is refused is shorter
shorter : (s : Bytes) (p : ℕ) (f : ReadFault) (x : Parts) (before more : List ℕ) → Legal x → Lies s p before → decode s p ≡ Err f → before ++ more ≡ part_bytes x → length before < length (part_bytes x)
shorter s p f x before [] l h e is =
    absurd (not_both (sym e ∙ decode_exact.takes x s p l (subst (λ (bs : List ℕ). Lies s p bs) (sym (append-nil before) ∙ is) h)))
shorter s p f x before (c ∷ more) l h e is = omega (arith, ap length is, length-append before (c ∷ more))

module _ (s : Bytes) (before : List ℕ) (k : ℕ) where
  abbrev Bar : Type 0
  Bar = Bars part_bytes Legal s before k

  barred : Bar → Barred s before k
  barred n = (n.0, n.1, λ i. n.2 (parts i) (record_legal i))

  other : {X : Type 0} (c : ReadCause) → (c ≡ Missing → ⊥) → ((c ≡ Missing) × (s k ≡ None)) ⊎ ((c ≡ Missing → ⊥) × Bar) → (Bar → X) → X
  other c ne (inl h) then = absurd (ne h.0)
  other c ne (inr h) then = then h.1

  stops : (c : ReadCause) → ((c ≡ Missing) × (s k ≡ None)) ⊎ ((c ≡ Missing → ⊥) × Bar) → Stops s before c k
  stops Missing (inl h) = h.1
  stops Missing (inr h) = absurd (h.0 refl)
  stops UnknownOperation h = other UnknownOperation (λ z. cc) h barred
  stops UnknownMode h = other UnknownMode (λ z. cc) h barred
  stops Pairing h = other Pairing (λ z. cc) h barred
  stops Digit h = other Digit (λ z. cc) h barred

-- a refusal comes at the first byte that is at fault
pub first_fault : (s : Bytes) (p : ℕ) (f : ReadFault) → Small s → decode s p ≡ Err f → FirstFault s p f
first_fault s p f w e =
    let r = decode_exact.refused s p f w e in
    let x = r.begun.0 in
    let i = record_of x r.begun.1 in
    let b = r.begun.2 in
    let same : bytes i.0 ≡ part_bytes x = ap part_bytes i.1 in
    record {
      before = r.before;
      lies = r.lies;
      place = r.place ∙ past_is p r.before;
      begun = (i.0, (b.0, b.1 ∙ sym same), subst (λ (bs : List ℕ). length r.before < length bs) (sym same) (shorter s p f x r.before b.0 r.begun.1 r.lies e b.1));
      stops = stops s r.before f.place.offset f.cause r.halts;
    }

-- The same of a reader's answer.

answered_ok : (d : Read Parts) (p : ℕ) (x : Parts) → Ok x ≡ answer_of d → d ≡ Ok (x, place_of p d)
answered_ok (Ok y) p x e = let h : x ≡ y.0 = cc in ap (λ (z : Parts). Ok (z, y.1)) (sym h)
answered_ok (Err f) p x e = absurd (not_both (sym e))

answered_err : (d : Read Parts) (f : ReadFault) → Err f ≡ answer_of d → d ≡ Err f
answered_err (Ok y) f e = absurd (not_both e)
answered_err (Err h) f e = sym (let k : f ≡ h = cc in ap Err k)

-- what an accepted or a refused answer says of the reading
pub next_ok : (s : Bytes) (p q : ℕ) (i : Instruction) → read (Ok i) ≡ answer s p → q ≡ place_after s p → decode s p ≡ Ok (parts i, q)
next_ok s p q i e m = answered_ok (decode s p) p (parts i) e ∙ ap (λ (q : ℕ). Ok (parts i, q)) (sym m)

pub next_err : (s : Bytes) (p : ℕ) (f : ReadFault) → read (Err f) ≡ answer s p → decode s p ≡ Err f
next_err s p f e = answered_err (decode s p) f e

pub reads_back_next : (s : Bytes) (p : ℕ) (r : Result Instruction ReadFault) → read r ≡ answer s p → ReadsBack s p r
reads_back_next s p (Ok j) e i h =
    let k : Ok (parts j) ≡ Ok (parts i) = e ∙ ap answer_of (reads_back i s p h) in
    let same : parts j ≡ parts i = un_ok k in
    ap Ok (same_instruction j i same)
reads_back_next s p (Err f) e i h = absurd (not_both (e ∙ ap answer_of (reads_back i s p h)))

pub writes_back_next : (s : Bytes) (p q : ℕ) (r : Result Instruction ReadFault) → Small s → read r ≡ answer s p → q ≡ place_after s p → WritesBack s p q r
writes_back_next s p q (Ok i) w e m =
    writes_back s p (parts i) q w (next_ok s p q i e m)
writes_back_next s p q (Err f) w e m = tt

pub first_fault_next : (s : Bytes) (p : ℕ) (r : Result Instruction ReadFault) → Small s → read r ≡ answer s p → StopsAtFirstFault s p r
first_fault_next s p (Ok i) w e = tt
first_fault_next s p (Err f) w e = first_fault s p f w (next_err s p f e)
