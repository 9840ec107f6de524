-- Bytes that lie in a source, and lists that begin one another. Assumes nothing.
use Rattle.std.proofs.Common.{◌≡◌, ℕ, ◌+◌, ◌⊎◌, List, [], ◌∷◌, ◌++◌, length, drop, Some, None, Option, sym, refl, ap, ◌∙◌, subst, inl, inr, append_assoc, add-zero, arith}
use Rattle.std.proofs.lemmas.List.{drop_at, length_push}
use Rattle.codec.specs.Laws.{Begins, Lies}
use Rattle.codec.specs.Sources.{Bytes}

-- the place behind these bytes
abbrev pub past : ℕ → List ℕ → ℕ
past p [] = p
past p (b ∷ bs) = past (p + 1) bs

pub past_is : (p : ℕ) (bs : List ℕ) → past p bs ≡ p + length bs
past_is p [] = sym (add-zero p)
past_is p (b ∷ bs) = past_is (p + 1) bs ∙ omega arith

pub past_append : (p : ℕ) (xs ys : List ℕ) → past p (xs ++ ys) ≡ past (past p xs) ys
past_append p [] ys = refl
past_append p (x ∷ xs) ys = past_append (p + 1) xs ys

pub lies_split : (s : Bytes) (p : ℕ) (xs ys : List ℕ) → Lies s p (xs ++ ys) → Lies s p xs × Lies s (past p xs) ys
lies_split s p [] ys h = (tt, h)
lies_split s p (x ∷ xs) ys h = let k = lies_split s (p + 1) xs ys h.1 in ((h.0, k.0), k.1)

pub lies_join : (s : Bytes) (p : ℕ) (xs ys : List ℕ) → Lies s p xs → Lies s (past p xs) ys → Lies s p (xs ++ ys)
lies_join s p [] ys h k = k
lies_join s p (x ∷ xs) ys h k = (h.0, lies_join s (p + 1) xs ys h.1 k)

-- what begins bytes that lie there lies there
pub lies_begun : (s : Bytes) (p : ℕ) (xs ys : List ℕ) → Begins xs ys → Lies s p ys → Lies s p xs
lies_begun s p xs ys b h = (lies_split s p xs b.0 (subst (λ (l : List ℕ). Lies s p l) (sym b.1) h)).0

-- of two lists with one continuation, the longer of which ends in b, one begins the other
pub comparable : (xs : List ℕ) (b : ℕ) (ys z w : List ℕ) → (xs ++ b ∷ []) ++ z ≡ ys ++ w → Begins (xs ++ b ∷ []) ys ⊎ Begins ys xs
comparable [] b [] z w e = inr ([], refl)
comparable [] b (c ∷ ys) z w e = let h : b ≡ c = cc in inl (ys, ap (λ (x : ℕ). x ∷ ys) h)
comparable (a ∷ xs) b [] z w e = inr (a ∷ xs, refl)
comparable (a ∷ xs) b (c ∷ ys) z w e =
    let h : a ≡ c = cc in
    let t : (xs ++ b ∷ []) ++ z ≡ ys ++ w = cc in
    elim (comparable xs b ys z w t) [
      | inl k ↦ inl (k.0, λ i. h i ∷ k.1 i)
      | inr k ↦ inr (k.0, λ i. sym h i ∷ k.1 i)
    ]

-- a list as a source, whatever its numbers
abbrev pub head : List ℕ → Option ℕ
head [] = None
head (x ∷ xs) = Some x

abbrev pub plain : List ℕ → Bytes
plain l p = head (drop p l)

lies_within : (pre bs rest : List ℕ) (p : ℕ) → length pre ≡ p → Lies (plain (pre ++ (bs ++ rest))) p bs
lies_within pre [] rest p e = tt
lies_within pre (b ∷ bs) rest p e =
    let here : drop p (pre ++ (b ∷ (bs ++ rest))) ≡ b ∷ (bs ++ rest) = drop_at pre (b ∷ (bs ++ rest)) p e in
    let move : (pre ++ b ∷ []) ++ (bs ++ rest) ≡ pre ++ (b ∷ (bs ++ rest)) = append_assoc pre (b ∷ []) (bs ++ rest) in
    (ap head here, subst (λ (l : List ℕ). Lies (plain l) (p + 1) bs) move (lies_within (pre ++ b ∷ []) bs rest (p + 1) (length_push pre b ∙ ap (λ (n : ℕ). n + 1) e)))

-- a list that begins another lies at its front
pub lies_front : (xs ys : List ℕ) → Begins xs ys → Lies (plain ys) 0 xs
lies_front xs ys b = subst (λ (l : List ℕ). Lies (plain l) 0 xs) b.1 (lies_within [] xs b.0 0 refl)
