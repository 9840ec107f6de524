-- The filling of a list with the records of a program. Assumes nothing.
use Rattle.std.proofs.Common.{◌≡◌, ℕ, zero, suc, ◌+◌, ◌-◌, ◌<◌, ◌≤◌, List, [], ◌∷◌, ◌++◌, map, length, take, drop, set, Some, None, Ok, Err, Option, Result, sym, refl, ap, ◌∙◌, append_assoc, append-nil, arith}
use Rattle.std.proofs.lemmas.List.{drop-map, length-map, length-take-le, map-append, map_push, nil_from_length, take_all, take_more_set}
use Rattle.std.specs.Prelude.{IsOk}
use Rattle.std.proofs.lemmas.Bool.{cond-false, le-ltb}
use Rattle.cisca.specs.Making.{Parts, parts}
use Rattle.cisca.specs.declared.instruction.Instruction.{Instruction}
use Rattle.codec.proofs.Exact.{not_both, un_ok}
use Rattle.codec.proofs.Laws.{next_err, next_ok}
use Rattle.codec.specs.Decoding.{decode}
use Rattle.codec.specs.Readers.{answer, place_after, read}
use Rattle.codec.specs.Sources.{Bytes}
use Rattle.codec.specs.declared.fault.ReadFault.{ReadFault}
use Rattle.program.specs.Programs.{Records, counted, filled, read_from, whole}
use Rattle.program.proofs.Laws.{behind_ok}
use Rattle.program.proofs.Reading.{read_end, read_on}

-- a list is filled up to k with the records that are read, `rest` of n are to come
pub record Filling (s : Bytes) (end : ℕ) (items : List Instruction) (at k n : ℕ) : Type 0 where
  pub rest : List Parts
  pub so_far : whole s end ≡ Ok (map parts (take k items) ++ rest)
  pub left : read_from (end - k) s at ≡ Ok rest
  pub total : n ≡ k + length rest

-- the records that were counted
counted_ok : (r : Records) (n : ℕ) → Ok n ≡ counted r → (xs : List Parts) × (r ≡ Ok xs) × (n ≡ length xs)
counted_ok (Ok xs) n e = (xs, refl, un_ok e)
counted_ok (Err f) n e = absurd (not_both (sym e))

pub filling_none : (s : Bytes) (end n : ℕ) (items : List Instruction) → Ok n ≡ counted (whole s end) → Filling s end items 0 0 n
filling_none s end n items e =
    let c = counted_ok (whole s end) n e in
    record { rest = c.0; so_far = c.1; left = ap (λ (m : ℕ). read_from m s 0) (omega arith) ∙ c.1; total = let h = c.2 in omega arith }

-- where records are left, the next one is read
left_at : (m : ℕ) (s : Bytes) (o : Option ℕ) (at : ℕ) (rest : List Parts) → s at ≡ o → 0 < length rest → read_from (suc m) s at ≡ Ok rest → (x : Parts) × (q : ℕ) × (ys : List Parts) × (decode s at ≡ Ok (x, q)) × (read_from m s q ≡ Ok ys) × (x ∷ ys ≡ rest)
left_at m s None at rest here h e = let z = ap length (un_ok (sym (read_end (suc m) s at here) ∙ e)) in absurd (omega arith)
left_at m s (Some b) at rest here h e = behind_ok (decode s at) (λ q. read_from m s q) rest (sym (read_on m s at b here) ∙ e)

left_next : (m : ℕ) (s : Bytes) (at : ℕ) (rest : List Parts) → 0 < length rest → read_from m s at ≡ Ok rest → (x : Parts) × (q : ℕ) × (ys : List Parts) × (decode s at ≡ Ok (x, q)) × (read_from (m - 1) s q ≡ Ok ys) × (x ∷ ys ≡ rest)
left_next zero s at rest h e = let z = ap length (un_ok e) in absurd (omega arith)
left_next (suc m) s at rest h e =
    let l = left_at m s (s at) at rest refl h e in
    (l.0, l.1, l.2, l.3, ap (λ (k : ℕ). read_from k s l.1) (omega arith) ∙ l.4, l.5)

module _ (s : Bytes) (end : ℕ) (old items : List Instruction) (at k n : ℕ) (f : Filling s end items at k n) (room : n ≤ length old) (full : length items ≡ length (take n old)) where
  size : length items ≡ n
  size = full ∙ length-take-le n old room

  module _ (h : k < length (take n old)) where
    within : k < length items
    within = let e = full in omega arith

    ahead : (x : Parts) × (q : ℕ) × (ys : List Parts) × (decode s at ≡ Ok (x, q)) × (read_from (end - k - 1) s q ≡ Ok ys) × (x ∷ ys ≡ f.rest)
    ahead = left_next (end - k) s at f.rest (let t = f.total in let e = size in let w = within in omega arith) f.left

    -- so that it is not refused
    pub filling_taken : (r : Result Instruction ReadFault) → read r ≡ answer s at → IsOk r
    filling_taken (Ok i) e = refl
    filling_taken (Err g) e = absurd (not_both (sym (next_err s at g e) ∙ ahead.3))

    pub filling_more : (r : Result Instruction ReadFault) (i : Instruction) (q : ℕ) → read r ≡ answer s at → q ≡ place_after s at → r ≡ Ok i → Filling s end (set items k i) q (k + 1) n
    filling_more r i q e m is =
        let a = ahead in
        let both : ◌≡◌ {A = Parts × ℕ} (parts i, q) (a.0, a.1) = un_ok (sym (next_ok s at q i (ap read (sym is) ∙ e) m) ∙ a.3) in
        let same : parts i ≡ a.0 = ap (λ (y : Parts × ℕ). y.0) both in
        let long : length f.rest ≡ suc (length a.2) = ap length (sym a.5) in
        record {
          rest = a.2;
          so_far =
              f.so_far
              ∙ ap (λ (ys : List Parts). Ok (map parts (take k items) ++ ys)) (sym a.5 ∙ ap (λ (x : Parts). x ∷ a.2) (sym same))
              ∙ ap Ok (sym (append_assoc (map parts (take k items)) (parts i ∷ []) a.2))
              ∙ ap (λ (xs : List Parts). Ok (xs ++ a.2)) (sym (map_push parts (take k items) i))
              ∙ ap (λ (l : List Instruction). Ok (map parts l ++ a.2)) (sym (take_more_set items k i within));
          left = ap (λ (m : ℕ). read_from m s q) (omega arith) ∙ ap (read_from (end - k - 1) s) (ap (λ (y : Parts × ℕ). y.1) both) ∙ a.4;
          total = let t = f.total in omega arith;
        }

  -- what the list then holds
  module _ (done : length (take n old) ≤ k) where
    all : whole s end ≡ Ok (map parts items)
    all =
        let e = size in
        let d = done in
        let g = full in
        let none : f.rest ≡ [] = nil_from_length f.rest (let t = f.total in omega arith) in
        f.so_far ∙ ap (λ (ys : List Parts). Ok (map parts (take k items) ++ ys)) none
        ∙ ap Ok (append-nil (map parts (take k items))) ∙ ap (λ (l : List Instruction). Ok (map parts l)) (take_all k items (omega arith))

    pub filled_holds : map parts (items ++ drop n old) ≡ filled (whole s end) (map parts old)
    filled_holds =
        let xs = map parts items in
        let l = length-map old parts in
        let long : length xs ≡ n = length-map items parts ∙ size in
        map-append parts items (drop n old)
        ∙ ap (λ (ys : List Parts). xs ++ ys) (sym (drop-map parts n old) ∙ ap (λ (m : ℕ). drop m (map parts old)) (sym long))
        ∙ sym (cond-false _ _ _ (le-ltb (length (map parts old)) (length xs) (omega arith)))
        ∙ ap (λ (r : Records). filled r (map parts old)) (sym all)
