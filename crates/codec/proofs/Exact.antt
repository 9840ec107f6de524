-- Exact formats: what is read is what was written, and a refusal comes at the first byte with which
-- nothing legal begins. They are built from single bytes, one behind the other. Assumes nothing.
use Rattle.std.proofs.Common.{◌≡◌, ℕ, ◌+◌, ◌<◌, ◌⊎◌, List, [], ◌∷◌, ◌++◌, Some, None, Ok, Err, Option, Result, sym, refl, ap, ◌∙◌, subst, inl, inr, append_assoc, append-nil, arith}
use Rattle.std.proofs.lemmas.List.{append_cancel_left}
use Rattle.codec.specs.Decoding.{Read, after, byte_at, judged_at, known, taken}
use Rattle.codec.specs.Faults.{fault}
use Rattle.codec.specs.Laws.{Begins, Lies}
use Rattle.codec.specs.Sources.{Bytes, Small}
use Rattle.codec.specs.declared.fault.ReadCause.TheVariants.{Missing}
use Rattle.codec.specs.declared.fault.ReadFault.{ReadFault}
use Rattle.codec.proofs.Prefixes.{comparable, lies_begun, lies_front, lies_join, lies_split, past, past_append, plain}

-- an answer is accepted or refused, not both
pub not_both : {X : Type 0} {f : ReadFault} {x : X} → ◌≡◌ {A = Result X ReadFault} (Err f) (Ok x) → ⊥
not_both e = cc

pub un_ok : {X : Type 0} {x y : X} → ◌≡◌ {A = Result X ReadFault} (Ok x) (Ok y) → x ≡ y
un_ok e = cc

pub un_err : {X : Type 0} {f g : ReadFault} → ◌≡◌ {A = Result X ReadFault} (Err f) (Err g) → f ≡ g
un_err e = cc

module _ {X : Type 0} (W : X → List ℕ) (L : X → Type 0) (s : Bytes) (before : List ℕ) (k : ℕ) where
  -- the byte at k begins nothing legal with those before it
  abbrev pub Bars : Type 0
  Bars = (b : ℕ) × (s k ≡ Some b) × ((x : X) → L x → Begins (before ++ b ∷ []) (W x) → ⊥)

  abbrev pub Halts : ReadFault → Type 0
  Halts f = ((f.cause ≡ Missing) × (s k ≡ None)) ⊎ ((f.cause ≡ Missing → ⊥) × Bars)

pub record Refused {X : Type 0} (W : X → List ℕ) (L : X → Type 0) (s : Bytes) (p : ℕ) (f : ReadFault) : Type 0 where
  pub before : List ℕ
  pub lies : Lies s p before
  pub place : f.place.offset ≡ past p before
  pub begun : (x : X) × L x × Begins before (W x)
  pub halts : Halts W L s before f.place.offset f

-- a reader of values that are written by W and legal by L
pub record Exact {X : Type 0} (R : Bytes → ℕ → Read X) (W : X → List ℕ) (L : X → Type 0) : Type 0 where
  pub takes : (x : X) (s : Bytes) (p : ℕ) → L x → Lies s p (W x) → R s p ≡ Ok (x, past p (W x))
  pub gave : (s : Bytes) (p : ℕ) (x : X) (q : ℕ) → Small s → R s p ≡ Ok (x, q) → L x × Lies s p (W x) × (q ≡ past p (W x))
  pub refused : (s : Bytes) (p : ℕ) (f : ReadFault) → Small s → R s p ≡ Err f → Refused W L s p f
  pub some : (x : X) × L x

after_ok : {X Y : Type 0} (r : Read X) (k : X → ℕ → Read Y) {y : Y × ℕ} → after r k ≡ Ok y → (x : X) × (q : ℕ) × (r ≡ Ok (x, q)) × (k x q ≡ Ok y)
after_ok (Ok x) k e = (x.0, x.1, refl, e)
after_ok (Err f) k e = absurd (not_both e)

after_err : {X Y : Type 0} (r : Read X) (k : X → ℕ → Read Y) {f : ReadFault} → after r k ≡ Err f → (r ≡ Err f) ⊎ ((x : X) × (q : ℕ) × (r ≡ Ok (x, q)) × (k x q ≡ Err f))
after_err (Ok x) k e = inr (x.0, x.1, refl, e)
after_err (Err g) k e = inl (ap Err (un_err e))

-- values behind values
module _
    {X Y : Type 0}
    (R₁ : Bytes → ℕ → Read X)
    (R₂ : X → Bytes → ℕ → Read Y)
    (W₁ : X → List ℕ)
    (L₁ : X → Type 0)
    (W₂ : X → Y → List ℕ)
    (L₂ : X → Y → Type 0)
    (W : Y → List ℕ)
    (L : Y → Type 0)
    (E₁ : Exact R₁ W₁ L₁)
    (E₂ : (x : X) → L₁ x → Exact (R₂ x) (W₂ x) (L₂ x))
    (split : (y : Y) → L y → (x : X) × L₁ x × L₂ x y × (W y ≡ W₁ x ++ W₂ x y))
    (join : (x : X) (y : Y) → L₁ x → L₂ x y → L y × (W y ≡ W₁ x ++ W₂ x y))
  where
    abbrev R : Bytes → ℕ → Read Y
    R s p = after (R₁ s p) λ x q. R₂ x s q

    seq_takes : (y : Y) (s : Bytes) (p : ℕ) → L y → Lies s p (W y) → R s p ≡ Ok (y, past p (W y))
    seq_takes y s p l h =
        let c = split y l in
        let x = c.0 in
        let d = lies_split s p (W₁ x) (W₂ x y) (subst (λ (b : List ℕ). Lies s p b) c.3 h) in
        ap (λ (r : Read X). after r λ x q. R₂ x s q) (E₁.takes x s p c.1 d.0)
        ∙ (E₂ x c.1).takes y s (past p (W₁ x)) c.2 d.1
        ∙ ap (λ (q : ℕ). Ok (y, q)) (sym (past_append p (W₁ x) (W₂ x y)) ∙ ap (past p) (sym c.3))

    seq_gave : (s : Bytes) (p : ℕ) (y : Y) (q : ℕ) → Small s → R s p ≡ Ok (y, q) → L y × Lies s p (W y) × (q ≡ past p (W y))
    seq_gave s p y q w e =
        let a = after_ok (R₁ s p) (λ x q. R₂ x s q) e in
        let x = a.0 in
        let g = E₁.gave s p x a.1 w a.2 in
        let h = (E₂ x g.0).gave s a.1 y q w a.3 in
        let j = join x y g.0 h.0 in
        let there : Lies s (past p (W₁ x)) (W₂ x y) = subst (λ (t : ℕ). Lies s t (W₂ x y)) g.2 h.1 in (
          j.0,
          subst (λ (b : List ℕ). Lies s p b) (sym j.1) (lies_join s p (W₁ x) (W₂ x y) g.1 there),
          h.2 ∙ ap (λ (t : ℕ). past t (W₂ x y)) g.2 ∙ sym (past_append p (W₁ x) (W₂ x y)) ∙ ap (past p) (sym j.1),
        )

    -- refused in the first value
    seq_first : (s : Bytes) (p : ℕ) (f : ReadFault) → R₁ s p ≡ Err f → Refused W₁ L₁ s p f → Refused W L s p f
    seq_first s p f e r =
        let x = r.begun.0 in
        let l₁ = r.begun.1 in
        let b = r.begun.2 in
        let y = (E₂ x l₁).some in
        let j = join x y.0 l₁ y.1 in
        let barred : (c : ℕ) → ((x : X) → L₁ x → Begins (r.before ++ c ∷ []) (W₁ x) → ⊥) → (z : Y) → L z → Begins (r.before ++ c ∷ []) (W z) → ⊥ =
        λ c none z l d.
        let k = split z l in
        elim (comparable r.before c (W₁ k.0) d.0 (W₂ k.0 z) (d.1 ∙ k.3)) [
          | inl m ↦ none k.0 k.1 m
          | inr m ↦ not_both (sym e ∙ E₁.takes k.0 s p k.1 (lies_begun s p (W₁ k.0) r.before m r.lies))
        ] in
        record {
          before = r.before;
          lies = r.lies;
          place = r.place;
          begun = (y.0, j.0, (b.0 ++ W₂ x y.0, sym (append_assoc r.before b.0 (W₂ x y.0)) ∙ ap (λ (t : List ℕ). t ++ W₂ x y.0) b.1 ∙ sym j.1));
          halts = elim r.halts [
            | inl m ↦ inl m
            | inr m ↦ inr (m.0, (m.1.0, m.1.1, barred m.1.0 m.1.2))
          ];
        }

    -- one value is read from what begins with its bytes
    same_first : (x z : X) (l : List ℕ) → L₁ x → L₁ z → Begins (W₁ x) l → Begins (W₁ z) l → x ≡ z
    same_first x z l lx lz bx bz =
        let both : (x, past 0 (W₁ x)) ≡ (z, past 0 (W₁ z)) =
        un_ok (sym (E₁.takes x (plain l) 0 lx (lies_front (W₁ x) l bx)) ∙ E₁.takes z (plain l) 0 lz (lies_front (W₁ z) l bz)) in
        ap (λ (t : X × ℕ). t.0) both

    -- refused in the second value
    seq_second : (s : Bytes) (p : ℕ) (f : ReadFault) (x : X) (q : ℕ) → L₁ x → Lies s p (W₁ x) → q ≡ past p (W₁ x) → Refused (W₂ x) (L₂ x) s q f → Refused W L s p f
    seq_second s p f x q l₁ h at r =
        let y = r.begun.0 in
        let j = join x y l₁ r.begun.1 in
        let b = r.begun.2 in
        let barred : (c : ℕ) → ((y : Y) → L₂ x y → Begins (r.before ++ c ∷ []) (W₂ x y) → ⊥) → (z : Y) → L z → Begins ((W₁ x ++ r.before) ++ c ∷ []) (W z) → ⊥ =
        λ c none z l d.
        let k = split z l in
        let front : W₁ x ++ ((r.before ++ c ∷ []) ++ d.0) ≡ W z =
        ap (λ (t : List ℕ). W₁ x ++ t) (append_assoc r.before (c ∷ []) d.0)
        ∙ sym (append_assoc (W₁ x) r.before ((c ∷ []) ++ d.0))
        ∙ sym (append_assoc (W₁ x ++ r.before) (c ∷ []) d.0)
        ∙ d.1 in
        let same = same_first x k.0 (W z) l₁ k.1 ((r.before ++ c ∷ []) ++ d.0, front) (W₂ k.0 z, sym k.3) in
        let legal : L₂ x z = subst (λ (t : X). L₂ t z) (sym same) k.2 in
        let whole : W z ≡ W₁ x ++ W₂ x z = k.3 ∙ ap (λ (t : X). W₁ t ++ W₂ t z) (sym same) in
        none z legal (d.0, append_cancel_left (W₁ x) _ _ (front ∙ whole)) in
        record {
          before = W₁ x ++ r.before;
          lies = lies_join s p (W₁ x) r.before h (subst (λ (t : ℕ). Lies s t r.before) at r.lies);
          place = r.place ∙ ap (λ (t : ℕ). past t r.before) at ∙ sym (past_append p (W₁ x) r.before);
          begun = (y, j.0, (b.0, append_assoc (W₁ x) r.before b.0 ∙ ap (λ (t : List ℕ). W₁ x ++ t) b.1 ∙ sym j.1));
          halts = elim r.halts [
            | inl m ↦ inl m
            | inr m ↦ inr (m.0, (m.1.0, m.1.1, barred m.1.0 m.1.2))
          ];
        }

    seq_refused : (s : Bytes) (p : ℕ) (f : ReadFault) → Small s → R s p ≡ Err f → Refused W L s p f
    seq_refused s p f w e =
        elim (after_err (R₁ s p) (λ x q. R₂ x s q) e) [
          | inl a ↦ seq_first s p f a (E₁.refused s p f w a)
          | inr a ↦
              let g = E₁.gave s p a.0 a.1 w a.2 in
              seq_second s p f a.0 a.1 g.0 g.1 g.2 ((E₂ a.0 g.0).refused s a.1 f w a.3)
        ]

    pub sequence : Exact (λ s p. after (R₁ s p) λ x q. R₂ x s q) W L
    sequence = record {
      takes = seq_takes;
      gave = seq_gave;
      refused = seq_refused;
      some = let x = E₁.some in let y = (E₂ x.0 x.1).some in (y.0, (join x.0 y.0 x.1 y.1).0);
    }

-- nothing is read, and the value is known
pub settled : {Y : Type 0} (y : Y) (W : Y → List ℕ) (L : Y → Type 0) → ((z : Y) → L z → y ≡ z) → L y → W y ≡ [] → Exact (λ s p. Ok (y, p)) W L
settled {Y} y W L same l e = record {
  takes = λ z s p l h. λ i. Ok (same z l i, past p (sym (ap W (sym (same z l)) ∙ e) i));
  gave = λ s p z q w h.
      let both = un_ok h in
      let is : y ≡ z = ap (λ t. t.0) both in
      let none : W z ≡ [] = ap W (sym is) ∙ e in
      (subst L is l, subst (λ (bs : List ℕ). Lies s p bs) (sym none) tt, sym (ap (λ t. t.1) both) ∙ ap (past p) (sym none));
  refused = λ s p f w h. absurd (not_both (sym h));
  some = (y, l);
}

-- the values of one format as those of another
module _
    {X Y : Type 0}
    (R : Bytes → ℕ → Read X)
    (f : X → Y)
    (W : X → List ℕ)
    (L : X → Type 0)
    (W' : Y → List ℕ)
    (L' : Y → Type 0)
    (E : Exact R W L)
    (from : (y : Y) → L' y → (x : X) × L x × (f x ≡ y) × (W' y ≡ W x))
    (to : (x : X) → L x → L' (f x) × (W' (f x) ≡ W x))
  where
    pub mapped : Exact (λ s p. after (R s p) λ x q. Ok (f x, q)) W' L'
    mapped =
        sequence R (λ x s q. Ok (f x, q)) W L (λ x y. []) (λ x y. f x ≡ y) W' L' E (λ x l. settled (f x) (λ y. []) (λ y. f x ≡ y) (λ y e. e) refl refl)
        (λ y l. let c = from y l in (c.0, c.1, c.2, c.3 ∙ sym (append-nil (W c.0))))
        (λ x y l e. subst (λ (y : Y). L' y × (W' y ≡ W x ++ [])) e (let c = to x l in (c.0, c.1 ∙ sym (append-nil (W x)))))

pub known_ok : {X Y : Type 0} (o : Option X) (f : ReadFault) (k : X → Result Y ReadFault) {y : Y} → known o f k ≡ Ok y → (x : X) × (o ≡ Some x) × (k x ≡ Ok y)
known_ok None f k e = absurd (not_both e)
known_ok (Some x) f k e = (x, refl, e)

byte_is : (s : Bytes) (p b : ℕ) → s p ≡ Some b → byte_at s p ≡ Ok (b, p + 1)
byte_is s p b e = ap (λ (o : Option ℕ). known o (fault Missing p) λ b. Ok (b, p + 1)) e

byte_gave : (s : Bytes) (p : ℕ) (b q : ℕ) → byte_at s p ≡ Ok (b, q) → (s p ≡ Some b) × (q ≡ p + 1)
byte_gave s p b q e =
    let k = known_ok (s p) _ (λ b. Ok (b, p + 1)) e in
    let both : ◌≡◌ {A = ℕ × ℕ} (k.0, p + 1) (b, q) = un_ok k.2 in
    (k.1 ∙ ap (λ (z : ℕ × ℕ). Some z.0) both, ap (λ (z : ℕ × ℕ). z.1) (sym both))

-- a missing byte
gone : (o : Option ℕ) (p : ℕ) (f : ReadFault) → known {Y = ℕ × ℕ} o (fault Missing p) (λ b. Ok (b, p + 1)) ≡ Err f → (o ≡ None) × (fault Missing p ≡ f)
gone None p f e = (refl, un_err e)
gone (Some b) p f e = absurd (not_both (sym e))

module _ {X : Type 0} (W : X → List ℕ) (L : X → Type 0) (some : (x : X) × L x) where
  pub missing : (s : Bytes) (p : ℕ) (f : ReadFault) → byte_at s p ≡ Err f → Refused W L s p f
  missing s p f e =
      let g = gone (s p) p f e in
      record {
        before = [];
        lies = tt;
        place = ap (λ (f : ReadFault). f.place.offset) (sym g.1);
        begun = (some.0, some.1, (W some.0, refl));
        halts = inl (ap (λ (f : ReadFault). f.cause) (sym g.1), ap s (ap (λ (f : ReadFault). f.place.offset) (sym g.1)) ∙ g.0);
      }

-- any byte
pub one_byte : Exact byte_at (λ b. b ∷ []) (λ b. b < 256)
one_byte = record {
  takes = λ b s p l h. byte_is s p b h.0;
  gave = λ s p b q w e. let g = byte_gave s p b q e in (w p b g.0, (g.0, tt), g.1);
  refused = λ s p f w e. missing (λ b. b ∷ []) (λ b. b < 256) (0, omega arith) s p f e;
  some = (0, omega arith);
}

taken_ok : {X : Type 0} (r : Result X ReadFault) (q : ℕ) {x : X} {t : ℕ} → taken r q ≡ Ok (x, t) → (r ≡ Ok x) × (q ≡ t)
taken_ok (Ok y) q e = let both = un_ok e in (ap (λ z. Ok z.0) both, ap (λ z. z.1) both)
taken_ok (Err f) q e = absurd (not_both e)

taken_err : {X : Type 0} (r : Result X ReadFault) (q : ℕ) {f : ReadFault} → taken r q ≡ Err f → r ≡ Err f
taken_err (Ok y) q e = absurd (not_both (sym e))
taken_err (Err g) q e = ap Err (un_err e)

-- a byte by its meaning
module _
    {X : Type 0}
    (judge : ℕ → ℕ → Result X ReadFault)
    (W : X → ℕ)
    (L : X → Type 0)
    (means : (x : X) (p : ℕ) → L x → judge (W x) p ≡ Ok x)
    (meant : (b p : ℕ) (x : X) → b < 256 → judge b p ≡ Ok x → L x × (W x ≡ b))
    (blames : (b p : ℕ) (f : ReadFault) → judge b p ≡ Err f → (f.place.offset ≡ p) × (f.cause ≡ Missing → ⊥))
    (some : (x : X) × L x)
  where
    abbrev V : X → List ℕ
    V x = W x ∷ []

    judged_takes : (x : X) (s : Bytes) (p : ℕ) → L x → Lies s p (V x) → judged_at judge s p ≡ Ok (x, past p (V x))
    judged_takes x s p l h =
        ap (λ (r : Read ℕ). after r λ b q. taken (judge b p) q) (byte_is s p (W x) h.0)
        ∙ ap (λ (r : Result X ReadFault). taken r (p + 1)) (means x p l)

    judged_gave : (s : Bytes) (p : ℕ) (x : X) (q : ℕ) → Small s → judged_at judge s p ≡ Ok (x, q) → L x × Lies s p (V x) × (q ≡ past p (V x))
    judged_gave s p x q w e =
        let a = after_ok (byte_at s p) (λ b q. taken (judge b p) q) e in
        let g = byte_gave s p a.0 a.1 a.2 in
        let t = taken_ok (judge a.0 p) a.1 a.3 in
        let m = meant a.0 p x (w p a.0 g.0) t.0 in
        (m.0, (g.0 ∙ ap Some (sym m.1), tt), sym t.1 ∙ g.1)

    judged_refused : (s : Bytes) (p : ℕ) (f : ReadFault) → Small s → judged_at judge s p ≡ Err f → Refused V L s p f
    judged_refused s p f w e =
        elim (after_err (byte_at s p) (λ b q. taken (judge b p) q) e) [
          | inl a ↦ missing V L some s p f a
          | inr a ↦
              let g = byte_gave s p a.0 a.1 a.2 in
              let no = taken_err (judge a.0 p) a.1 a.3 in
              let c = blames a.0 p f no in
              record {
                before = [];
                lies = tt;
                place = c.0;
                begun = (some.0, some.1, (V some.0, refl));
                halts = inr (
                  c.1,
                  (
                    a.0,
                    ap s c.0 ∙ g.0,
                    λ x l d.
                        let same : W x ≡ a.0 = let h = d.1 in cc in
                        not_both (sym no ∙ ap (λ (b : ℕ). judge b p) (sym same) ∙ means x p l),
                  ),
                );
              }
        ]

    pub judged : Exact (judged_at judge) V L
    judged = record { takes = judged_takes; gave = judged_gave; refused = judged_refused; some = some }
