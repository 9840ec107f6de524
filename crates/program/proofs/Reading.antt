-- The reading of a whole program, record by record. Assumes nothing.
use Rattle.std.proofs.Common.{◌≡◌, ℕ, zero, suc, ◌+◌, ◌-◌, ◌<◌, ◌≤◌, Bool, true, false, ltb, List, [], ◌∷◌, ◌++◌, length, is_some, Some, None, Ok, Err, Option, sym, refl, ap, ◌∙◌, inl, inr, append_assoc, append-nil, arith}
use Rattle.std.proofs.lemmas.List.{length_push}
use Rattle.std.proofs.lemmas.Bool.{cases_Bool, ltb-false, ltb-true}
use Rattle.cisca.specs.Making.{Parts}
use Rattle.codec.proofs.Laws.{writes_back}
use Rattle.codec.specs.Decoding.{Read, decode}
use Rattle.codec.specs.Sources.{Bytes, EndsBy, Small}
use Rattle.codec.specs.declared.fault.ReadFault.{ReadFault}
use Rattle.program.specs.Programs.{Records, behind, onto, read_from, unless_ended, whole}

onto_none : (r : Records) → onto [] r ≡ r
onto_none (Ok xs) = refl
onto_none (Err f) = refl

onto_onto : (xs ys : List Parts) (r : Records) → onto xs (onto ys r) ≡ onto (xs ++ ys) r
onto_onto xs ys (Ok zs) = ap Ok (sym (append_assoc xs ys zs))
onto_onto xs ys (Err f) = refl

pub read_end : (n : ℕ) (s : Bytes) (p : ℕ) → s p ≡ None → read_from n s p ≡ Ok []
read_end zero s p e = refl
read_end (suc n) s p e = ap (λ (o : Option ℕ). unless_ended o (behind (decode s p) λ q. read_from n s q)) e

pub read_on : (n : ℕ) (s : Bytes) (p b : ℕ) → s p ≡ Some b → read_from (suc n) s p ≡ behind (decode s p) λ q. read_from n s q
read_on n s p b e = ap (λ (o : Option ℕ). unless_ended o (behind (decode s p) λ q. read_from n s q)) e

-- a byte stands before the end
pub before_end : (s : Bytes) (n p b : ℕ) → EndsBy s n → s p ≡ Some b → p < n
before_end s n p b w e = elim (cases_Bool (ltb p n)) [
  | inl t ↦ ltb-true p n t
  | inr t ↦ cc (w p (ltb-false p n t))
]

-- a reading moves on
pub moves_on : (s : Bytes) (p : ℕ) (x : Parts) (q : ℕ) → Small s → decode s p ≡ Ok (x, q) → p < q
moves_on s p x q w e = let h = (writes_back s p x q w e).1 in omega arith

-- so many records are read, up to the place p, and those from there on are left
pub record Counting (s : Bytes) (end p n : ℕ) : Type 0 where
  pub done : List Parts
  pub count : length done ≡ n
  pub so_far : whole s end ≡ onto done (read_from (end - n) s p)
  pub ahead : n ≤ p

pub counting_none : (s : Bytes) (end : ℕ) → Counting s end 0 0
counting_none s end = record { done = []; count = refl; so_far = sym (onto_none (read_from (end - 0) s 0) ∙ ap (λ (n : ℕ). read_from n s 0) (omega arith)); ahead = omega arith }

module _ (s : Bytes) (end p n b : ℕ) (w : EndsBy s end) (c : Counting s end p n) (here : s p ≡ Some b) where
  left : end - n ≡ suc (end - (n + 1))
  left = let h = before_end s end p b w here in let a = c.ahead in omega arith

  next : whole s end ≡ onto c.done (behind (decode s p) λ q. read_from (end - (n + 1)) s q)
  next = c.so_far ∙ ap (λ (m : ℕ). onto c.done (read_from m s p)) left ∙ ap (onto c.done) (read_on (end - (n + 1)) s p b here)

  pub counting_more : (x : Parts) (q : ℕ) → Small s → decode s p ≡ Ok (x, q) → Counting s end q (n + 1)
  counting_more x q small e = record {
    done = c.done ++ x ∷ [];
    count = length_push c.done x ∙ ap (λ (m : ℕ). m + 1) c.count;
    so_far = next ∙ ap (λ (r : Read Parts). onto c.done (behind r λ q. read_from (end - (n + 1)) s q)) e ∙ onto_onto c.done (x ∷ []) (read_from (end - (n + 1)) s q);
    ahead = let m = moves_on s p x q small e in let a = c.ahead in omega arith;
  }

  pub counting_refused : (f : ReadFault) → decode s p ≡ Err f → whole s end ≡ Err f
  counting_refused f e = next ∙ ap (λ (r : Read Parts). onto c.done (behind r λ q. read_from (end - (n + 1)) s q)) e

pub counting_all : (s : Bytes) (end p n : ℕ) (c : Counting s end p n) → s p ≡ None → whole s end ≡ Ok c.done
counting_all s end p n c e = c.so_far ∙ ap (onto c.done) (read_end (end - n) s p e) ∙ ap Ok (append-nil c.done)

some_there : (o : Option ℕ) → is_some o ≡ true → (b : ℕ) × (o ≡ Some b)
some_there None e = cc
some_there (Some b) e = (b, refl)

none_there : (o : Option ℕ) → is_some o ≡ false → o ≡ None
none_there None e = refl
none_there (Some b) e = cc

-- what a test for a byte says
pub byte_there : (s : Bytes) (p : ℕ) (o : Option ℕ) (t : Bool) → o ≡ s p → t ≡ is_some o → t ≡ true → (b : ℕ) × (s p ≡ Some b)
byte_there s p o t e f g = some_there (s p) (ap is_some (sym e) ∙ sym f ∙ g)

pub byte_gone : (s : Bytes) (p : ℕ) (o : Option ℕ) (t : Bool) → o ≡ s p → t ≡ is_some o → t ≡ false → s p ≡ None
byte_gone s p o t e f g = none_there (s p) (ap is_some (sym e) ∙ sym f ∙ g)
