-- Operands as an exact format: a mode byte, then the value bytes. Assumes nothing.
use Rattle.std.proofs.Common.{◌≡◌, ℕ, suc, ◌+◌, ◌-◌, ◌*◌, ◌/◌, ◌%◌, ◌^◌, ◌<◌, Bool, true, false, T, ltb, List, [], ◌∷◌, ℤ, pos, negsuc, Some, None, Ok, Err, Option, Result, sym, refl, ap, ◌∙◌, subst, arith, ltb→lt, lt→ltb, w16, SFits, to_z, of_z}
use mir.Val.{sel}
use Rattle.std.proofs.lemmas.Nat.{div-mul-add, mod-mul-add}
use Rattle.std.proofs.lemmas.Int.{of_z-to_z, to_z-of_z}
use Rattle.std.proofs.lemmas.Bool.{eqb-true, ltb-false}
use Rattle.operands.proofs.Modes.{mode_found, number_finds}
use Rattle.operands.proofs.Same.{same_register}
use Rattle.std.specs.Prelude.{MatchResult}
use Rattle.operands.specs.Modes.{ModeOf, mode, mode_number, mode_of}
use Rattle.operands.specs.Widths.{short, within}
use Rattle.operands.specs.declared.mode.Mode.{Mode}
use Rattle.operands.specs.declared.mode.Mode.TheVariants as m
use Rattle.operands.specs.declared.mode.UnknownMode.{UnknownMode}
use Rattle.operands.specs.declared.operand.Operand.{Operand}
use Rattle.operands.specs.declared.operand.Operand.TheVariants.{Direct, Immediate, Indexed, Indirect, PcRelative, Register, Relative}
use Rattle.operands.specs.declared.register.Register as reg
use Rattle.codec.specs.Decoding.{Read, address, after, clean, displacement, four_at, judged_at, judged_mode, known, number, operand_at, provided, register_of, two_at, valued_at}
use Rattle.codec.specs.Encoding.{digit, four_bytes, operand_bytes, two_bytes, value_bytes}
use Rattle.codec.specs.Faults.{fault}
use Rattle.codec.specs.Sources.{Bytes}
use Rattle.codec.specs.declared.decode.ModeByte.{ModeByte}
use Rattle.codec.specs.declared.fault.ReadCause.{ReadCause}
use Rattle.codec.specs.declared.fault.ReadCause.TheVariants as cause
use Rattle.codec.specs.declared.fault.ReadFault.{ReadFault}
use Rattle.codec.proofs.Exact.{Exact, judged, known_ok, mapped, not_both, sequence, settled, un_err, un_ok}
use Rattle.codec.proofs.Numbers.{four_exact, two_exact}

-- The mode byte.

-- a number that is taken as a mode is that mode's
pub mode_taken : (n : ℕ) (r : Result Mode UnknownMode) (m : Mode) → ModeOf n r → MatchResult r (λ x. ◌≡◌ {A = Result Mode ReadFault} (Ok m) (Ok x)) (λ e. ⊥) → mode_of n ≡ Some m
mode_taken n (Ok x) m h k = h ∙ ap Some (sym (un_ok k))
mode_taken n (Err e) m h k = absurd k

abbrev pub marked : Mode → reg.Register → ModeByte
marked m r = record { mode = m; register = r }

-- the byte of a mode and a digit
abbrev mark : ModeByte → ℕ
mark t = mode_number t.mode * 16 + t.register.index

module _ (fits : Mode → Bool) where
  -- the mode may stand here, and the digit beside it
  abbrev Stands : ModeByte → Type 0
  Stands t = (fits t.mode ≡ true) × (clean t.mode t.register.index ≡ true)

  pub judged_is : (b p : ℕ) (n : Mode) (r : reg.Register) → mode_of (b / 16) ≡ Some n → fits n ≡ true → clean n (b % 16) ≡ true → r ≡ register_of b → judged_mode fits b p ≡ Ok (marked n r)
  judged_is b p n r e f g h =
      let k₁ : Mode → Result ModeByte ReadFault = λ n. provided (clean n (b % 16)) (fault cause.Digit p) (Ok (marked n (register_of b))) in
      ap (λ (o : Option Mode). known o (fault cause.UnknownMode p) λ n. provided (fits n) (fault cause.Pairing p) (k₁ n)) e
      ∙ ap (λ (t : Bool). provided t (fault cause.Pairing p) (k₁ n)) f
      ∙ ap (λ (t : Bool). provided t (fault cause.Digit p) (Ok (marked n (register_of b)))) g
      ∙ ap (λ (r : reg.Register). Ok (marked n r)) (sym h)

  provided_ok : {Y : Type 0} (t : Bool) (f : ReadFault) (r : Result Y ReadFault) {y : Y} → provided t f r ≡ Ok y → (t ≡ true) × (r ≡ Ok y)
  provided_ok true f r e = (refl, e)
  provided_ok false f r e = absurd (not_both e)

  mode_means : (t : ModeByte) (p : ℕ) → Stands t → judged_mode fits (mark t) p ≡ Ok t
  mode_means t p l =
      let low : t.register.index < 16 = ltb→lt t.register.index 16 t.register.below in
      let d = mod-mul-add (mode_number t.mode) 16 t.register.index low in
      judged_is (mark t) p t.mode t.register
      (ap mode_of (div-mul-add (mode_number t.mode) 16 t.register.index low) ∙ number_finds t.mode)
      l.0
      (ap (clean t.mode) d ∙ l.1)
      (same_register t.register (register_of (mark t)) (sym d))

  mode_meant : (b p : ℕ) (t : ModeByte) → b < 256 → judged_mode fits b p ≡ Ok t → Stands t × (mark t ≡ b)
  mode_meant b p t w e =
      let k = known_ok (mode_of (b / 16)) _ _ e in
      let f = provided_ok (fits k.0) _ _ k.2 in
      let g = provided_ok (clean k.0 (b % 16)) _ _ f.1 in
      let same : marked k.0 (register_of b) ≡ t = un_ok g.1 in
      subst (λ (t : ModeByte). Stands t × (mark t ≡ b)) same ((f.0, g.0), (let n = mode_found (b / 16) k.0 k.1 in omega arith))

  abbrev Blames : ℕ → ReadFault → Type 0
  Blames p f = (f.place.offset ≡ p) × (f.cause ≡ cause.Missing → ⊥)

  -- a refusal of the byte at p that is not for want of it
  blamed : (c : ReadCause) (p : ℕ) (f : ReadFault) → (c ≡ cause.Missing → ⊥) → fault c p ≡ f → Blames p f
  blamed c p f n e = subst (Blames p) e (refl, n)

  provided_blames : {Y : Type 0} (t : Bool) (c : ReadCause) (p : ℕ) (f : ReadFault) (r : Result Y ReadFault) → (c ≡ cause.Missing → ⊥) → (r ≡ Err f → Blames p f) → provided t (fault c p) r ≡ Err f → Blames p f
  provided_blames true c p f r n k e = k e
  provided_blames false c p f r n k e = blamed c p f n (un_err e)

  pub known_blames : {X Y : Type 0} (o : Option X) (c : ReadCause) (p : ℕ) (f : ReadFault) (r : X → Result Y ReadFault) → (c ≡ cause.Missing → ⊥) → ((x : X) → r x ≡ Err f → Blames p f) → known o (fault c p) r ≡ Err f → Blames p f
  known_blames None c p f r n k e = blamed c p f n (un_err e)
  known_blames (Some x) c p f r n k e = k x e

  mode_blames : (b p : ℕ) (f : ReadFault) → judged_mode fits b p ≡ Err f → Blames p f
  mode_blames b p f e =
      known_blames (mode_of (b / 16)) cause.UnknownMode p f _ (λ z. cc)
      (λ m. provided_blames (fits m) cause.Pairing p f _ (λ z. cc)
      (provided_blames (clean m (b % 16)) cause.Digit p f _ (λ z. cc) (λ z. absurd (not_both (sym z))))) e

  mode_exact : (t : ModeByte) × Stands t → Exact (judged_at (judged_mode fits)) (λ t. mark t ∷ []) Stands
  mode_exact some = judged (judged_mode fits) mark Stands mode_means mode_meant mode_blames some

-- The value bytes.

-- the operands of a mode and a register, by the number in their value bytes
abbrev Valued : Mode → reg.Register → Operand → Type 0
Valued m.Immediate r a = (n : ℕ) × (n < 2 ^ 32) × (Immediate (number n) ≡ a)
Valued m.Register r a = Register r ≡ a
Valued m.Direct r a = (n : ℕ) × (n < 2 ^ 32) × (Direct (address n) ≡ a)
Valued m.Indirect r a = Indirect r ≡ a
Valued m.Relative r a = (n : ℕ) × (n < 2 ^ 16) × (Relative r (displacement n) ≡ a)
Valued m.Indexed r a = (n : ℕ) × (n < 2 ^ 32) × (Indexed (address n) r ≡ a)
Valued m.PcRelative r a = (n : ℕ) × (n < 2 ^ 16) × (PcRelative (displacement n) ≡ a)

-- a value made of a number that is read
made_of : (R : Bytes → ℕ → Read ℕ) (W : ℕ → List ℕ) (k : ℕ) (f : ℕ → Operand) → Exact R W (λ n. n < 2 ^ k) → ((n : ℕ) → n < 2 ^ k → value_bytes (f n) ≡ W n) → Exact (λ s p. after (R s p) λ n q. Ok (f n, q)) value_bytes (λ a. (n : ℕ) × (n < 2 ^ k) × (f n ≡ a))
made_of R W k f E e =
    mapped R f W (λ n. n < 2 ^ k) value_bytes (λ a. (n : ℕ) × (n < 2 ^ k) × (f n ≡ a)) E
    (λ a l. (l.0, l.1, l.2, ap value_bytes (sym l.2) ∙ e l.0 l.1))
    (λ n l. ((n, l, refl), e n l))

-- a value that is the register alone
only : (a : Operand) → value_bytes a ≡ [] → Exact (λ s p. Ok (a, p)) value_bytes (λ b. a ≡ b)
only a e = settled a value_bytes (λ b. a ≡ b) (λ b l. l) refl e

value_exact : (n : Mode) (r : reg.Register) → Exact (valued_at n r) value_bytes (Valued n r)
value_exact m.Immediate r = made_of four_at four_bytes 32 (λ n. Immediate (number n)) four_exact (λ n h. refl)
value_exact m.Register r = only (Register r) refl
value_exact m.Direct r = made_of four_at four_bytes 32 (λ n. Direct (address n)) four_exact (λ n h. refl)
value_exact m.Indirect r = only (Indirect r) refl
value_exact m.Relative r = made_of two_at two_bytes 16 (λ n. Relative r (displacement n)) two_exact (λ n h. ap two_bytes (of_z-to_z w16 n h))
value_exact m.Indexed r = made_of four_at four_bytes 32 (λ n. Indexed (address n) r) four_exact (λ n h. refl)
value_exact m.PcRelative r = made_of two_at two_bytes 16 (λ n. PcRelative (displacement n)) two_exact (λ n h. ap two_bytes (of_z-to_z w16 n h))

-- Both.

short_fits : (z : ℤ) → T (short z) → SFits w16 z
short_fits (pos n) t = record { sfits = ltb→lt n (2 ^ 15) t }
short_fits (negsuc n) t = record { sfits = ltb→lt n (2 ^ 15) t }

short_bits : (z : ℤ) → T (short z) → of_z w16 z < 2 ^ 16
short_bits (pos n) t = omega (arith, ltb→lt n (2 ^ 15) t)
short_bits (negsuc n) t = omega arith

from_bits : (d : ℤ) → T (short d) → to_z w16 (of_z w16 d) ≡ d
from_bits d t = to_z-of_z w16 d (short_fits d t)

short_selected : (t : Bool) (n : ℕ) → ltb n (2 ^ 15) ≡ t → n < 2 ^ 16 → T (short (sel t (pos n) (negsuc (2 ^ 16 - suc n))))
short_selected true n e h = subst T (sym e) tt
short_selected false n e h = lt→ltb (2 ^ 16 - suc n) (2 ^ 15) (omega (arith, ltb-false n (2 ^ 15) e))

bits_short : (n : ℕ) → n < 2 ^ 16 → T (short (to_z w16 n))
bits_short n h = short_selected (ltb n (2 ^ 15)) n refl h

-- an operand by its mode byte
abbrev tag : Operand → ModeByte
tag a = marked (mode a) (register_of (digit a))

pub index_low : (r : reg.Register) → r.index < 16
index_low r = ltb→lt r.index 16 r.below

digit_low : (a : Operand) → digit a % 16 ≡ digit a
digit_low (Register r) = omega (arith, index_low r)
digit_low (Indirect r) = omega (arith, index_low r)
digit_low (Relative r d) = omega (arith, index_low r)
digit_low (Indexed a r) = omega (arith, index_low r)
digit_low a = refl

same_digit : (r : reg.Register) → register_of r.index ≡ r
same_digit r = same_register _ r (omega (arith, index_low r))

clean_tag : (a : Operand) → clean (mode a) (digit a % 16) ≡ true
clean_tag (Immediate n) = refl
clean_tag a = refl

valued_tag : (a : Operand) → T (within a) → Valued (mode a) (register_of (digit a)) a
valued_tag (Immediate n) t = (n.0, ltb→lt n.0 (2 ^ 32) t, refl)
valued_tag (Register r) t = ap Register (same_digit r)
valued_tag (Direct a) t = (a.0, ltb→lt a.0 (2 ^ 32) t, refl)
valued_tag (Indirect r) t = ap Indirect (same_digit r)
valued_tag (Relative r d) t = (of_z w16 d.0, short_bits d.0 t, λ i. Relative (same_digit r i) (record { 0 = from_bits d.0 t i }))
valued_tag (Indexed a r) t = (a.0, ltb→lt a.0 (2 ^ 32) t, ap (λ (r : reg.Register). Indexed a r) (same_digit r))
valued_tag (PcRelative d) t = (of_z w16 d.0, short_bits d.0 t, λ i. PcRelative (record { 0 = from_bits d.0 t i }))

-- an operand with this mode and digit, whose quantities fit
abbrev Tagged : Mode → reg.Register → Operand → Type 0
Tagged n r a = (mode a ≡ n) × (digit a ≡ r.index) × T (within a)

valued_tagged : (n : Mode) (r : reg.Register) (a : Operand) → clean n r.index ≡ true → Valued n r a → Tagged n r a
valued_tagged m.Immediate r a c v = subst (Tagged m.Immediate r) v.2 (refl, sym (eqb-true r.index 0 c), lt→ltb v.0 (2 ^ 32) v.1)
valued_tagged m.Register r a c v = subst (Tagged m.Register r) v (refl, refl, tt)
valued_tagged m.Direct r a c v = subst (Tagged m.Direct r) v.2 (refl, sym (eqb-true r.index 0 c), lt→ltb v.0 (2 ^ 32) v.1)
valued_tagged m.Indirect r a c v = subst (Tagged m.Indirect r) v (refl, refl, tt)
valued_tagged m.Relative r a c v = subst (Tagged m.Relative r) v.2 (refl, refl, bits_short v.0 v.1)
valued_tagged m.Indexed r a c v = subst (Tagged m.Indexed r) v.2 (refl, refl, lt→ltb v.0 (2 ^ 32) v.1)
valued_tagged m.PcRelative r a c v = subst (Tagged m.PcRelative r) v.2 (refl, sym (eqb-true r.index 0 c), bits_short v.0 v.1)

-- an operand that may stand where the modes that fit may
abbrev pub Fitting : (Mode → Bool) → Operand → Type 0
Fitting fits a = (fits (mode a) ≡ true) × T (within a)

pub operand_exact : (fits : Mode → Bool) → (a : Operand) × Fitting fits a → Exact (operand_at fits) operand_bytes (Fitting fits)
operand_exact fits some =
    sequence (judged_at (judged_mode fits)) (λ t s q. valued_at t.mode t.register s q) (λ t. mark t ∷ []) (Stands fits)
    (λ t a. value_bytes a) (λ t a. Valued t.mode t.register a) operand_bytes (Fitting fits)
    (mode_exact fits (tag some.0, (some.1.0, clean_tag some.0)))
    (λ t l. value_exact t.mode t.register)
    (λ a l. (tag a, (l.0, clean_tag a), valued_tag a l.1, ap (λ (d : ℕ). (mode_number (mode a) * 16 + d) ∷ value_bytes a) (sym (digit_low a))))
    (λ t a l v. let b = valued_tagged t.mode t.register a l.1 v in ((ap fits b.0 ∙ l.0, b.2), λ i. (mode_number (b.0 i) * 16 + b.1 i) ∷ value_bytes a))
