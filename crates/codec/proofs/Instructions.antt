-- Instructions as an exact format: the operation byte, then the operands. Assumes nothing.
use Rattle.std.proofs.Common.{◌≡◌, ℕ, true, T, eqb, List, [], ◌∷◌, ◌++◌, Some, None, Ok, Option, sym, refl, ap, ◌∙◌, subst, append-nil, arith}
use Rattle.std.proofs.lemmas.Bool.{and_from, and_parts, cond-true, eqb-true}
use Rattle.cisca.proofs.Codes.{code_finds, code_found}
use Rattle.cisca.proofs.Same.{Legal}
use Rattle.cisca.specs.Legality.{mode_if, pairing}
use Rattle.cisca.specs.Making.{Parts, assembled, making}
use Rattle.operands.specs.Modes.{mode}
use Rattle.operands.specs.Groups.{grouped, operand_count}
use Rattle.cisca.specs.Table.{code, group, operation_of}
use Rattle.operands.specs.Widths.{all_within}
use Rattle.operands.specs.declared.group.Group.{Group}
use Rattle.operands.specs.declared.group.Group.TheVariants.{Bare, Inward, Jump, Outward, Pair, Single, Target}
use Rattle.operands.specs.declared.operand.Operand.{Operand}
use Rattle.operands.specs.declared.operand.Operand.TheVariants.{Immediate, Indirect, PcRelative, Register}
use Rattle.cisca.specs.declared.operation.Operation.{Operation}
use Rattle.cisca.specs.declared.operation.Operation.TheVariants as op
use Rattle.codec.specs.Decoding.{Operands, Read, after, decode, displacement, fits_behind, judged_at, judged_operation, known, number, one_at, operand_at, operands_at, pair_at, register_of}
use Rattle.codec.specs.Encoding.{bytes_if, operand_bytes, part_bytes}
use Rattle.codec.specs.Faults.{fault}
use Rattle.codec.specs.Sources.{Bytes, Small}
use Rattle.codec.specs.declared.fault.ReadCause.TheVariants as cause
use Rattle.codec.proofs.Exact.{Exact, judged, known_ok, mapped, not_both, sequence, settled, un_ok}
use Rattle.codec.proofs.Operands.{Fitting, known_blames, operand_exact}

-- The operation byte.

operation_exact : Exact (judged_at judged_operation) (λ o. code o ∷ []) (λ o. Unit {0})
operation_exact =
    judged judged_operation code (λ o. Unit {0})
    (λ o p l. ap (λ (x : Option Operation). known x (fault cause.UnknownOperation p) Ok) (code_finds o))
    (λ b p o w e. let k = known_ok (operation_of b) (fault cause.UnknownOperation p) Ok e in (tt, ap code (sym (un_ok k.2)) ∙ code_found b k.0 k.1))
    (λ b p f e. known_blames (λ m. true) (operation_of b) cause.UnknownOperation p f Ok (λ z. cc) (λ o z. absurd (not_both (sym z))) e)
    (op.Nop, tt)

-- The operands of a group.

abbrev Grouped : Group → Operands → Type 0
Grouped g os = (grouped g (mode_if os.0) (mode_if os.1) ≡ true) × T (all_within os.0) × T (all_within os.1)

abbrev operands_bytes : Operands → List ℕ
operands_bytes os = bytes_if os.0 ++ bytes_if os.1

-- a count is one number alone
clash : {X : Type 0} (n k j : ℕ) → n ≡ k → eqb n j ≡ true → (k ≡ j → ⊥) → X
clash n k j e f ne = absurd (ne (sym e ∙ eqb-true n j f))

none_same : (a b : Option Operand) → grouped Bare (mode_if a) (mode_if b) ≡ true → ◌≡◌ {A = Operands} (None, None) (a, b)
none_same None None e = refl
none_same None (Some b) e = cc
none_same (Some a) None e = cc
none_same (Some a) (Some b) e = cc

module _ (g : Group) where
  abbrev First : Operand → Type 0
  First = Fitting (fits_behind g None)

  abbrev Behind : Operand → Operand → Type 0
  Behind a = Fitting (fits_behind g (Some (mode a)))

  one_from : operand_count g ≡ 1 → (a b : Option Operand) → Grouped g (a, b) → (x : Operand) × First x × (◌≡◌ {A = Operands} (Some x, None) (a, b)) × (operands_bytes (a, b) ≡ operand_bytes x)
  one_from c None None l = clash (operand_count g) 1 0 c l.0 (λ e. omega arith)
  one_from c None (Some b) l = cc l.0
  one_from c (Some a) None l = (a, ((and_parts _ _ l.0).1, l.1), refl, append-nil (operand_bytes a))
  one_from c (Some a) (Some b) l = clash (operand_count g) 1 2 c (and_parts _ _ l.0).0 (λ e. omega arith)

  one_exact : operand_count g ≡ 1 → (a : Operand) × First a → Exact (one_at g) operands_bytes (Grouped g)
  one_exact c some =
      mapped (operand_at (fits_behind g None)) (λ a. (Some a, None)) operand_bytes First operands_bytes (Grouped g) (operand_exact _ some)
      (λ os l. one_from c os.0 os.1 l)
      (λ a l. ((and_from _ _ (ap (λ (n : ℕ). eqb n 1) c) l.0, l.1, tt), append-nil (operand_bytes a)))

  -- two operands, by the first
  abbrev Both : Operand → Operands → Type 0
  Both a os = (b : Operand) × Behind a b × (◌≡◌ {A = Operands} (Some a, Some b) os)

  second_exact : (a : Operand) → (b : Operand) × Behind a b → Exact (λ s q. after (operand_at (fits_behind g (Some (mode a))) s q) λ b t. Ok ((Some a, Some b), t)) (λ os. bytes_if os.1) (Both a)
  second_exact a some =
      mapped (operand_at (fits_behind g (Some (mode a)))) (λ b. (Some a, Some b)) operand_bytes (Behind a) (λ os. bytes_if os.1) (Both a) (operand_exact _ some)
      (λ os l. (l.0, l.1, l.2, ap (λ (os : Operands). bytes_if os.1) (sym l.2)))
      (λ b l. ((b, l, refl), refl))

  pair_split : operand_count g ≡ 2 → (a b : Option Operand) → Grouped g (a, b) → (x : Operand) × First x × Both x (a, b) × (operands_bytes (a, b) ≡ operand_bytes x ++ bytes_if b)
  pair_split c None None l = clash (operand_count g) 2 0 c l.0 (λ e. omega arith)
  pair_split c None (Some b) l = cc l.0
  pair_split c (Some a) None l = clash (operand_count g) 2 1 c (and_parts _ _ l.0).0 (λ e. omega arith)
  pair_split c (Some a) (Some b) l =
      let f = and_parts _ _ (and_parts _ _ l.0).1 in
      (a, (f.0, l.1), (b, (f.1, l.2), refl), refl)

  pair_join : operand_count g ≡ 2 → (x : Operand) (os : Operands) → First x → Both x os → Grouped g os × (operands_bytes os ≡ operand_bytes x ++ bytes_if os.1)
  pair_join c x os l v =
      subst (λ (os : Operands). Grouped g os × (operands_bytes os ≡ operand_bytes x ++ bytes_if os.1)) v.2
      ((and_from _ _ (ap (λ (n : ℕ). eqb n 2) c) (and_from _ _ l.0 v.1.0), l.1, v.1.1), refl)

  pair_exact : operand_count g ≡ 2 → (a : Operand) × First a → ((a : Operand) → First a → (b : Operand) × Behind a b) → Exact (pair_at g) operands_bytes (Grouped g)
  pair_exact c some more =
      sequence (operand_at (fits_behind g None)) (λ a s q. after (operand_at (fits_behind g (Some (mode a))) s q) λ b t. Ok ((Some a, Some b), t))
      operand_bytes First (λ a os. bytes_if os.1) Both operands_bytes (Grouped g)
      (operand_exact _ some) (λ a l. second_exact a (more a l))
      (λ os l. pair_split c os.0 os.1 l)
      (pair_join c)

-- operands that may stand where there is a choice
abbrev any_register : Operand
any_register = Register (register_of 0)

abbrev any_memory : Operand
any_memory = Indirect (register_of 0)

operands_exact : (g : Group) → Exact (operands_at g) operands_bytes (Grouped g)
operands_exact Bare = settled (None, None) operands_bytes (Grouped Bare) (λ os l. none_same os.0 os.1 l.0) (refl, tt, tt) refl
operands_exact Single = one_exact Single refl (any_register, (refl, tt))
operands_exact Pair = pair_exact Pair refl (any_register, (refl, tt)) (λ a l. (any_register, (refl, tt)))
operands_exact Target = one_exact Target refl (Immediate (number 0), (refl, tt))
operands_exact Jump = one_exact Jump refl (PcRelative (displacement 0), (refl, tt))
operands_exact Inward = pair_exact Inward refl (any_register, (refl, tt)) (λ a l. (any_memory, (refl, tt)))
operands_exact Outward = pair_exact Outward refl (any_memory, (refl, tt)) (λ a l. (any_register, (refl, tt)))

-- Both.

abbrev Of : Operation → Parts → Type 0
Of o x = (o ≡ x.operation) × Grouped (group o) (x.first, x.second)

abbrev rest_bytes : Parts → List ℕ
rest_bytes x = bytes_if x.first ++ bytes_if x.second

rest_exact : (o : Operation) → Exact (λ s q. after (operands_at (group o) s q) λ os t. Ok (assembled o os.0 os.1, t)) rest_bytes (Of o)
rest_exact o =
    mapped (operands_at (group o)) (λ os. assembled o os.0 os.1) operands_bytes (Grouped (group o)) rest_bytes (Of o) (operands_exact (group o))
    (λ x l. ((x.first, x.second), l.1, ap (λ (o : Operation). assembled o x.first x.second) l.0, refl))
    (λ os l. ((refl, l), refl))

pub decode_exact : Exact decode part_bytes Legal
decode_exact =
    sequence (judged_at judged_operation) (λ o s q. after (operands_at (group o) s q) λ os t. Ok (assembled o os.0 os.1, t))
    (λ o. code o ∷ []) (λ o. Unit {0}) (λ o. rest_bytes) Of part_bytes Legal
    operation_exact (λ o l. rest_exact o)
    (λ x l. (x.operation, tt, (refl, l), refl))
    (λ o x l v. (subst (λ (o : Operation). Grouped (group o) (x.first, x.second)) v.0 v.1, ap (λ (o : Operation). code o ∷ rest_bytes x) (sym v.0)))

-- A reading, from what its steps answered.

-- what is read goes together
pub read_legal : (o : Operation) (s : Bytes) (p : ℕ) (a b : Option Operand) (q : ℕ) → Small s → Ok ((a, b), q) ≡ operands_at (group o) s p → pairing o a b ≡ true
read_legal o s p a b q w e = ((operands_exact (group o)).gave s p (a, b) q w (sym e)).0.0

-- and makes a record of its parts
pub read_made : (o : Operation) (s : Bytes) (p : ℕ) (a b : Option Operand) (q : ℕ) → Small s → Ok ((a, b), q) ≡ operands_at (group o) s p → making o a b ≡ Ok (assembled o a b)
read_made o s p a b q w e = cond-true _ _ _ (read_legal o s p a b q w e)

pub decode_then : (s : Bytes) (p : ℕ) (o : Operation) (q : ℕ) (a b : Option Operand) (t : ℕ) → Ok (o, q) ≡ judged_at judged_operation s p → Ok ((a, b), t) ≡ operands_at (group o) s q → Ok (assembled o a b, t) ≡ decode s p
decode_then s p o q a b t e f =
    ap (λ (r : Read Operands). after r λ os t. Ok (assembled o os.0 os.1, t)) f
    ∙ ap (λ (r : Read Operation). after r λ o q. after (operands_at (group o) s q) λ os t. Ok (assembled o os.0 os.1, t)) e
