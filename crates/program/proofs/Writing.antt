-- The writing of a whole program, record by record. Assumes nothing.
use Rattle.std.proofs.Common.{◌≡◌, ℕ, ◌+◌, ◌-◌, ◌<◌, ◌≤◌, ltb, List, [], ◌++◌, length, get_or, take, drop, Some, None, Ok, Err, Option, Result, sym, refl, ap, ◌∙◌, inl, inr, append_assoc, append-nil, arith, length-append, length-drop}
use Rattle.std.specs.Prelude.{IsOk}
use Rattle.std.specs.Option.{SomeIff}
use borrow.Rule.Slice.PartMut.{put_mid}
use Rattle.std.proofs.lemmas.List.{at_drop_all, at_drop_more, drop_all, drop_at, drop-drop, take_all, take_at}
use Rattle.std.proofs.lemmas.Bool.{cases_Bool, cond-false, cond-true, le-ltb, lt-ltb, ltb-false, ltb-true}
use Rattle.cisca.specs.declared.instruction.Instruction.{Instruction}
use Rattle.codec.specs.Encoding.{bytes}
use Rattle.codec.specs.Writing.{overlaid, written}
use Rattle.codec.specs.declared.fault.WriteFault.{WriteFault}
use Rattle.codec.specs.declared.fault.WriteFault.TheVariants.{Short}
use Rattle.program.specs.Programs.{program_bytes}

abbrev size : List Instruction → ℕ
size is = length (program_bytes is)

-- so many bytes are left of the room, and those of the records from k on are to come
pub record Measuring (is : List Instruction) (room k left : ℕ) : Type 0 where
  pub sum : size is + left ≡ room + size (drop k is)
  pub within : left ≤ room

module _ (is : List Instruction) (room k left n : ℕ) (i : Instruction) (m : Measuring is room k left) (h : k < length is) (e : get_or is k i ≡ i) (f : n ≡ length (bytes i)) where
  split : size (drop k is) ≡ n + size (drop (k + 1) is)
  split =
      at_drop_more size is k i h
      ∙ ap (λ (j : Instruction). length (bytes j ++ program_bytes (drop (k + 1) is))) e
      ∙ length-append (bytes i) (program_bytes (drop (k + 1) is))
      ∙ ap (λ (x : ℕ). x + size (drop (k + 1) is)) (sym f)

  pub measuring_more : (o : Option ℕ) (x : ℕ) → SomeIff o (n ≤ left) (left - n) → o ≡ Some x → Measuring is room (k + 1) x
  measuring_more None x t g = cc
  measuring_more (Some y) x t g =
      let same : y ≡ x = cc in
      let value = t.1 in
      record { sum = let a = m.sum in let b = split in omega (arith, t.0); within = let w = m.within in omega arith }

  pub measuring_short : (o : Option ℕ) → SomeIff o (n ≤ left) (left - n) → o ≡ None → Err Short ≡ written (program_bytes is) room
  measuring_short None t g =
      let more : left < n = omega (arith, t) in
      sym (cond-true _ _ _ (lt-ltb room (size is) (let a = m.sum in let b = split in let w = m.within in omega arith)))
  measuring_short (Some y) t g = cc

pub measuring_all : (is : List Instruction) (room k left : ℕ) → Measuring is room k left → length is ≤ k → Ok (room - left) ≡ written (program_bytes is) room
measuring_all is room k left m h =
    let none : size (drop k is) ≡ 0 = at_drop_all size is k h in
    let all : size is ≡ room - left = let a = m.sum in let w = m.within in omega arith in
    ap Ok (sym all) ∙ sym (cond-false _ _ _ (le-ltb room (size is) (let w = m.within in omega arith)))

-- a buffer is half written: `front` stands there, and the bytes of the records from k on are to come
pub record Laying (is : List Instruction) (old new : List ℕ) (k at : ℕ) : Type 0 where
  pub front : List ℕ
  pub all : program_bytes is ≡ front ++ program_bytes (drop k is)
  pub count : length front ≡ at
  pub holds : new ≡ front ++ drop at old
  pub within : at ≤ length new

-- bytes that were written had room
written_ok : (bs : List ℕ) (room n : ℕ) → Ok n ≡ written bs room → (n ≡ length bs) × (length bs ≤ room)
written_ok bs room n e = elim (cases_Bool (ltb room (length bs))) [
  | inl t ↦ cc (e ∙ cond-true _ _ _ t)
  | inr t ↦ let k : n ≡ length bs = cc (e ∙ cond-false _ _ _ t) in (k, ltb-false room (length bs) t)
]

-- and bytes that were refused had none
written_err : (bs : List ℕ) (room : ℕ) (f : WriteFault) → Err f ≡ written bs room → room < length bs
written_err bs room f e = elim (cases_Bool (ltb room (length bs))) [
  | inl t ↦ ltb-true room (length bs) t
  | inr t ↦ cc (e ∙ cond-false _ _ _ t)
]

overlaid_fits : (bs old : List ℕ) → length bs ≤ length old → overlaid bs old ≡ bs ++ drop (length bs) old
overlaid_fits bs old h = cond-false _ _ _ (le-ltb (length old) (length bs) h)

-- a buffer that is too short for a program stays
pub unmeasured : (is : List Instruction) (old : List ℕ) (f : WriteFault) → Err f ≡ written (program_bytes is) (length old) → old ≡ overlaid (program_bytes is) old
unmeasured is old f e = sym (cond-true _ _ _ (lt-ltb (length old) (size is) (written_err (program_bytes is) (length old) f e)))

-- a program that was measured fits
pub measured : (is : List Instruction) (room n : ℕ) → Ok n ≡ written (program_bytes is) room → size is ≤ room
measured is room n e = (written_ok (program_bytes is) room n e).1

module _ (is : List Instruction) (old new : List ℕ) (k at : ℕ) (l : Laying is old new k at) where
  -- the part of the buffer that is to be written
  abbrev part : List ℕ
  part = take (length new - at) (drop at new)

  part_is : part ≡ drop at old
  part_is =
      take_all (length new - at) (drop at new) (omega (arith, length-drop at new))
      ∙ ap (drop at) l.holds ∙ drop_at l.front (drop at old) at l.count

  put_back : (ys : List ℕ) → put_mid at (length new - at) new ys ≡ l.front ++ ys
  put_back ys =
      let front : take at new ≡ l.front = ap (take at) l.holds ∙ take_at l.front (drop at old) at l.count in
      let none : drop (length new - at) (drop at new) ≡ [] = drop_all (length new - at) (drop at new) (omega (arith, length-drop at new)) in
      ap (λ (xs : List ℕ). xs ++ (ys ++ drop (length new - at) (drop at new))) front
      ∙ ap (λ (zs : List ℕ). l.front ++ (ys ++ zs)) none
      ∙ ap (λ (zs : List ℕ). l.front ++ zs) (append-nil ys)

  module _ (i : Instruction) (fits : size is ≤ length old) (h : k < length is) (e : get_or is k i ≡ i) where
    next_bytes : program_bytes is ≡ (l.front ++ bytes i) ++ program_bytes (drop (k + 1) is)
    next_bytes =
        l.all ∙ ap (λ (bs : List ℕ). l.front ++ bs) (at_drop_more program_bytes is k i h ∙ ap (λ (j : Instruction). bytes j ++ program_bytes (drop (k + 1) is)) e)
        ∙ sym (append_assoc l.front (bytes i) (program_bytes (drop (k + 1) is)))

    room : length (bytes i) ≤ length (drop at old)
    room =
        omega (arith, ap length next_bytes, length-append (l.front ++ bytes i) (program_bytes (drop (k + 1) is)), length-append l.front (bytes i), l.count, length-drop at old)

    pub laying_fits : (r : Result ℕ WriteFault) → r ≡ written (bytes i) (length part) → IsOk r
    laying_fits (Ok n) e = refl
    laying_fits (Err f) e = absurd (let w = written_err (bytes i) (length part) f e in omega (arith, ap length part_is, room))

    module _ (n : ℕ) (r : Result ℕ WriteFault) (is_ok : r ≡ Ok n) (told : r ≡ written (bytes i) (length part)) where
      size_is : n ≡ length (bytes i)
      size_is = (written_ok (bytes i) (length part) n (sym is_ok ∙ told)).0

      pub laying_sum : at + n ≤ length new
      laying_sum = omega (arith, size_is, room, ap length l.holds, length-append l.front (drop at old), l.count)

    pub laying_more : (n : ℕ) (ys : List ℕ) (r : Result ℕ WriteFault) → r ≡ Ok n → r ≡ written (bytes i) (length part) → ys ≡ overlaid (bytes i) part → Laying is old (put_mid at (length new - at) new ys) (k + 1) (at + n)
    laying_more n ys r ok told o =
        let c : n ≡ length (bytes i) = size_is n r ok told in
        let there : ys ≡ bytes i ++ drop (at + n) old =
        o ∙ ap (overlaid (bytes i)) part_is ∙ overlaid_fits (bytes i) (drop at old) room
        ∙ ap (λ (m : ℕ). bytes i ++ drop m (drop at old)) (sym c) ∙ ap (λ (bs : List ℕ). bytes i ++ bs) (drop-drop n at old) in
        record {
          front = l.front ++ bytes i;
          all = next_bytes;
          count = length-append l.front (bytes i) ∙ ap (λ (m : ℕ). m + length (bytes i)) l.count ∙ ap (λ (m : ℕ). at + m) (sym c);
          holds = put_back ys ∙ ap (λ (bs : List ℕ). l.front ++ bs) there ∙ sym (append_assoc l.front (bytes i) (drop (at + n) old));
          within = omega (arith, ap length (put_back ys ∙ ap (λ (bs : List ℕ). l.front ++ bs) there), length-append l.front (bytes i ++ drop (at + n) old), length-append (bytes i) (drop (at + n) old), l.count, c);
        }

  pub laying_all : size is ≤ length old → length is ≤ k → new ≡ overlaid (program_bytes is) old
  laying_all fits h =
      let whole : program_bytes is ≡ l.front = l.all ∙ ap (λ (bs : List ℕ). l.front ++ bs) (at_drop_all program_bytes is k h) ∙ append-nil l.front in
      l.holds
      ∙ ap (λ (bs : List ℕ). bs ++ drop at old) (sym whole)
      ∙ ap (λ (m : ℕ). program_bytes is ++ drop m old) (sym l.count ∙ ap length (sym whole))
      ∙ sym (overlaid_fits (program_bytes is) old fits)
