-- Bytes that are read one by one. Assumes nothing.
use Rattle.std.proofs.Common.{◌≡◌, ℕ, suc, ◌+◌, ◌-◌, ◌<◌, ◌≤◌, List, [], ◌∷◌, ◌++◌, length, take, set, Ok, Err, sym, refl, ap, ◌∙◌, append_assoc, append-nil, arith, length-set, Bor}
use Rattle.std.proofs.lemmas.List.{take_all, take_more_set}
use Rattle.codec.specs.Cursors.{Reads}
use Rattle.codec.specs.Decoding.{Read, after, byte_at, bytes_at}
use Rattle.codec.specs.Sources.{Bytes}
use Rattle.codec.specs.declared.decode.Cursor.{Cursor}

-- some bytes, and behind them what is read next
abbrev pub onto : List ℕ → Read (List ℕ) → Read (List ℕ)
onto xs r = after r λ ys q. Ok (xs ++ ys, q)

onto_none : (r : Read (List ℕ)) → onto [] r ≡ r
onto_none (Ok x) = refl
onto_none (Err f) = refl

onto_onto : (xs ys : List ℕ) (r : Read (List ℕ)) → onto xs (onto ys r) ≡ onto (xs ++ ys) r
onto_onto xs ys (Ok x) = ap (λ (l : List ℕ). Ok (l, x.1)) (sym (append_assoc xs ys x.0))
onto_onto xs ys (Err f) = refl

-- k of n bytes are read into the front of a list, and the others are to come
pub record Reading {S : Type 0} (shows : S → Bytes) (old new : Cursor S) (n : ℕ) (bytes : List ℕ) (k : ℕ) : Type 0 where
  pub same : new.source ≡ old.source
  pub left : bytes_at n (shows old.source.now) old.place.offset ≡ onto (take k bytes) (bytes_at (n - k) (shows old.source.now) new.place.offset)
  pub full : length bytes ≡ n

pub reading_more :
    {S : Type 0} (shows : S → Bytes) (old mid new : Cursor S) (n : ℕ) (bytes : List ℕ) (k b : ℕ) → Reading shows old mid n bytes k → k < n → Reads shows byte_at mid new (Ok b)
    → Reading shows old new n (set bytes k b) (k + 1)
reading_more {S = S} shows old mid new n bytes k b r room h =
    let s = shows old.source.now in
    let rest = bytes_at (n - (k + 1)) s in
    let full = r.full in
    let within : k < length bytes = omega arith in
    let more : n - k ≡ suc (n - (k + 1)) = omega arith in
    let read : byte_at s mid.place.offset ≡ Ok (b, new.place.offset) = sym (h.reads ∙ ap (λ (t : Bor S). byte_at (shows t.now) mid.place.offset) r.same) in
    let next : bytes_at (n - k) s mid.place.offset ≡ onto (b ∷ []) (rest new.place.offset) =
    ap (λ (m : ℕ). bytes_at m s mid.place.offset) more ∙ ap (λ (r : Read ℕ). after r λ b q. after (rest q) λ bs t. Ok (b ∷ bs, t)) read in
    record {
      same = h.same ∙ r.same;
      left =
          r.left ∙ ap (onto (take k bytes)) next ∙ onto_onto (take k bytes) (b ∷ []) (rest new.place.offset)
          ∙ ap (λ (l : List ℕ). onto l (rest new.place.offset)) (sym (take_more_set bytes k b within));
      full = length-set bytes k b ∙ full;
    }

pub reading_all : {S : Type 0} (shows : S → Bytes) (old new : Cursor S) (n : ℕ) (bytes : List ℕ) (k : ℕ) → Reading shows old new n bytes k → n ≤ k → Reads shows (bytes_at n) old new (Ok bytes)
reading_all shows old new n bytes k r done =
    let s = shows old.source.now in
    let none : n - k ≡ 0 = omega arith in
    let full = r.full in
    record {
      same = r.same;
      reads =
          sym (r.left ∙ ap (λ (m : ℕ). onto (take k bytes) (bytes_at m s new.place.offset)) none
          ∙ ap (λ (l : List ℕ). Ok (l, new.place.offset)) (append-nil (take k bytes) ∙ take_all k bytes (omega arith)));
    }
