-- The laws of whole programs. Assumes nothing.
use Rattle.std.proofs.Common.{◌≡◌, ℕ, zero, suc, ◌+◌, ◌≤◌, ◌⊎◌, List, [], ◌∷◌, ◌++◌, map, length, Some, None, Ok, Err, Option, sym, refl, ap, ◌∙◌, subst, inl, inr, append-nil, arith}
use Rattle.cisca.proofs.Same.{record_of}
use Rattle.cisca.specs.Making.{Parts, parts}
use Rattle.cisca.specs.declared.instruction.Instruction.{Instruction}
use Rattle.codec.proofs.Exact.{not_both, un_err, un_ok}
use Rattle.codec.proofs.Fronts.{AllSmall, bytes_small, lies_listed, small_append}
use Rattle.codec.proofs.Instructions.{decode_exact}
use Rattle.codec.proofs.Laws.{first_fault, reads_back}
use Rattle.codec.proofs.Prefixes.{lies_join, lies_split, past, past_append, past_is}
use Rattle.codec.specs.Decoding.{Read, decode}
use Rattle.codec.specs.Encoding.{bytes, part_bytes}
use Rattle.codec.specs.Laws.{FirstFault, Lies}
use Rattle.codec.specs.Sources.{Bytes, EndsBy, Small, listed, listed_ends}
use Rattle.codec.specs.declared.fault.ReadFault.{ReadFault}
use Rattle.program.specs.Laws.{ProgramReadWhole, ProgramReadsBack, ProgramStopsAtFirstFault, ProgramWritesBack}
use Rattle.program.specs.Programs.{Records, behind, onto, program_bytes, read_from}
use Rattle.program.proofs.Reading.{before_end, read_end, read_on}

-- What records went into a reading.

onto_ok : (xs : List Parts) (r : Records) (zs : List Parts) → onto xs r ≡ Ok zs → (ys : List Parts) × (r ≡ Ok ys) × (xs ++ ys ≡ zs)
onto_ok xs (Ok ys) zs e = (ys, refl, un_ok e)
onto_ok xs (Err f) zs e = absurd (not_both e)

onto_err : (xs : List Parts) (r : Records) (f : ReadFault) → onto xs r ≡ Err f → r ≡ Err f
onto_err xs (Ok ys) f e = absurd (not_both (sym e))
onto_err xs (Err g) f e = ap Err (un_err e)

pub behind_ok : (d : Read Parts) (k : ℕ → Records) (zs : List Parts) → behind d k ≡ Ok zs → (x : Parts) × (q : ℕ) × (ys : List Parts) × (d ≡ Ok (x, q)) × (k q ≡ Ok ys) × (x ∷ ys ≡ zs)
behind_ok (Ok x) k zs e = let h = onto_ok (x.0 ∷ []) (k x.1) zs e in (x.0, x.1, h.0, refl, h.1, h.2)
behind_ok (Err f) k zs e = absurd (not_both e)

behind_err : (d : Read Parts) (k : ℕ → Records) (f : ReadFault) → behind d k ≡ Err f → (d ≡ Err f) ⊎ ((x : Parts) × (q : ℕ) × (d ≡ Ok (x, q)) × (k q ≡ Err f))
behind_err (Ok x) k f e = inr (x.0, x.1, refl, onto_err (x.0 ∷ []) (k x.1) f e)
behind_err (Err g) k f e = inl (ap Err (un_err e))

-- an accepted reading has a record
read_record : (s : Bytes) (p : ℕ) (x : Parts) (q : ℕ) → Small s → decode s p ≡ Ok (x, q) → (i : Instruction) × (parts i ≡ x) × Lies s p (bytes i) × (q ≡ past p (bytes i))
read_record s p x q w e =
    let g = decode_exact.gave s p x q w e in
    let i = record_of x g.0 in (
      i.0,
      i.1,
      subst (λ (y : Parts). Lies s p (part_bytes y)) (sym i.1) g.1,
      g.2 ∙ ap (λ (y : Parts). past p (part_bytes y)) (sym i.1),
    )

-- The bytes of a list read as the list.

module _ (s : Bytes) (end : ℕ) (w : EndsBy s end) where
  reads_list : (is : List Instruction) (m p : ℕ) → end ≤ p + m → Lies s p (program_bytes is) → s (past p (program_bytes is)) ≡ None → read_from m s p ≡ Ok (map parts is)
  reads_list [] m p room h e = read_end m s p e
  reads_list (i ∷ is) zero p room h e =
      let d = lies_split s p (bytes i) (program_bytes is) h in
      absurd (omega (arith, before_end s end p _ w d.0.0))
  reads_list (i ∷ is) (suc m) p room h e =
      let d = lies_split s p (bytes i) (program_bytes is) h in
      let q = p + length (bytes i) in
      let at : past p (bytes i) ≡ q = past_is p (bytes i) in
      let rest = reads_list is m q (omega arith)
      (subst (λ (t : ℕ). Lies s t (program_bytes is)) at d.1)
      (ap s (ap (λ (t : ℕ). past t (program_bytes is)) (sym at) ∙ sym (past_append p (bytes i) (program_bytes is))) ∙ e) in
      read_on m s p _ d.0.0
      ∙ ap (λ (r : Read Parts). behind r λ q. read_from m s q) (reads_back i s p d.0)
      ∙ ap (onto (parts i ∷ [])) rest

  -- What is accepted is the bytes of a list.

  abbrev Listed : ℕ → List Parts → Type 0
  Listed p xs = (is : List Instruction) × (map parts is ≡ xs) × Lies s p (program_bytes is) × (s (past p (program_bytes is)) ≡ None)

  nothing_more : (p : ℕ) (xs : List Parts) → s p ≡ None → ◌≡◌ {A = Records} (Ok []) (Ok xs) → Listed p xs
  nothing_more p xs e f = ([], un_ok f, tt, e)

  module _ (small : Small s) where
    listed_behind : (i : Instruction) (p q : ℕ) (x : Parts) (xs : List Parts) → parts i ≡ x → Lies s p (bytes i) → q ≡ past p (bytes i) → Listed q xs → Listed p (x ∷ xs)
    listed_behind i p q x xs e h at l =
        let is = l.0 in (
          i ∷ is,
          (λ j. e j ∷ l.1 j),
          lies_join s p (bytes i) (program_bytes is) h (subst (λ (t : ℕ). Lies s t (program_bytes is)) at l.2),
          ap s (past_append p (bytes i) (program_bytes is) ∙ ap (λ (t : ℕ). past t (program_bytes is)) (sym at)) ∙ l.3,
        )

    -- from the records that a source has, one by one
    accepted_at : (m : ℕ) → ((p : ℕ) (xs : List Parts) → end ≤ p + m → read_from m s p ≡ Ok xs → Listed p xs) → (o : Option ℕ) (p : ℕ) (xs : List Parts) → s p ≡ o → end ≤ p + suc m → read_from (suc m) s p ≡ Ok xs → Listed p xs
    accepted_at m next None p xs here room e = nothing_more p xs here (sym (read_end (suc m) s p here) ∙ e)
    accepted_at m next (Some b) p xs here room e =
        let h = behind_ok (decode s p) (λ q. read_from m s q) xs (sym (read_on m s p b here) ∙ e) in
        let r = read_record s p h.0 h.1 small h.3 in
        let rest = next h.1 h.2 (omega (arith, r.3 ∙ past_is p (bytes r.0))) h.4 in
        subst (Listed p) h.5 (listed_behind r.0 p h.1 h.0 h.2 r.1 r.2 r.3 rest)

    accepted : (m p : ℕ) (xs : List Parts) → end ≤ p + m → read_from m s p ≡ Ok xs → Listed p xs
    accepted zero p xs room e = nothing_more p xs (w p (omega arith)) e
    accepted (suc m) p xs room e = accepted_at m (accepted m) (s p) p xs refl room e

    -- What is refused begins with the bytes of a list.

    abbrev Begun : ℕ → ReadFault → Type 0
    Begun p f = (is : List Instruction) × Lies s p (program_bytes is) × FirstFault s (past p (program_bytes is)) f

    begun_behind : (i : Instruction) (p q : ℕ) (f : ReadFault) → Lies s p (bytes i) → q ≡ past p (bytes i) → Begun q f → Begun p f
    begun_behind i p q f h at b =
        let is = b.0 in (
          i ∷ is,
          lies_join s p (bytes i) (program_bytes is) h (subst (λ (t : ℕ). Lies s t (program_bytes is)) at b.1),
          subst (λ (t : ℕ). FirstFault s t f) (ap (λ (t : ℕ). past t (program_bytes is)) at ∙ sym (past_append p (bytes i) (program_bytes is))) b.2,
        )

    refused_at : (m : ℕ) → ((p : ℕ) (f : ReadFault) → read_from m s p ≡ Err f → Begun p f) → (o : Option ℕ) (p : ℕ) (f : ReadFault) → s p ≡ o → read_from (suc m) s p ≡ Err f → Begun p f
    refused_at m next None p f here e = absurd (not_both (sym e ∙ read_end (suc m) s p here))
    refused_at m next (Some b) p f here e =
        elim (behind_err (decode s p) (λ q. read_from m s q) f (sym (read_on m s p b here) ∙ e)) [
          | inl h ↦ ([], tt, first_fault s p f small h)
          | inr h ↦
              let r = read_record s p h.0 h.1 small h.2 in
              begun_behind r.0 p h.1 f r.2 r.3 (next h.1 f h.3)
        ]

    refused : (m p : ℕ) (f : ReadFault) → read_from m s p ≡ Err f → Begun p f
    refused zero p f e = absurd (not_both (sym e))
    refused (suc m) p f e = refused_at m (refused m) (s p) p f refl e

  at_start : (bs : List ℕ) → past 0 bs ≡ length bs
  at_start bs = past_is 0 bs ∙ omega arith

  pub program_reads_back : ProgramReadsBack s end
  program_reads_back is h = reads_list is end 0 (omega arith) h.0 (ap s (at_start (program_bytes is)) ∙ h.1)

  pub program_writes_back : Small s → ProgramWritesBack s end
  program_writes_back small xs e =
      let l = accepted small end 0 xs (omega arith) e in
      (l.0, l.1, (l.2, ap s (sym (at_start (program_bytes l.0))) ∙ l.3))

  pub program_stops : Small s → ProgramStopsAtFirstFault s end
  program_stops small f e =
      let b = refused small end 0 f e in
      (b.0, b.1, subst (λ (t : ℕ). FirstFault s t f) (at_start (program_bytes b.0)) b.2)

-- The bytes of a program, all by themselves.

pub programs_small : (is : List Instruction) → AllSmall (program_bytes is)
programs_small [] = tt
programs_small (i ∷ is) = small_append (bytes i) (program_bytes is) (bytes_small i) (programs_small is)

pub program_read_whole : (is : List Instruction) → ProgramReadWhole is
program_read_whole is =
    let bs = program_bytes is in
    let lies : Lies (listed bs) 0 bs = subst (λ (l : List ℕ). Lies (listed l) 0 bs) (append-nil bs) (lies_listed [] bs [] 0 refl (programs_small is)) in
    program_reads_back (listed bs) (length bs) (listed_ends bs) is (lies, listed_ends bs (length bs) (omega arith))
