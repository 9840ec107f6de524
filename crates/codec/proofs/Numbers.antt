-- Bytes, and numbers of two and four bytes, lowest first, as exact formats. Assumes nothing.
use Rattle.std.proofs.Common.{◌≡◌, ℕ, zero, suc, ◌/◌, ◌^◌, ◌<◌, List, [], ◌∷◌, ◌++◌, length, get_or, drop, ◌%◌, Ok, sym, refl, ap, subst, arith}
use Rattle.std.specs.Int.{from_le_bytes, w16, w32}
use Rattle.std.proofs.lemmas.List.{nil_from_length}
use Rattle.std.proofs.lemmas.Nat.{from_le_bytes-to_le_bytes_2, from_le_bytes-to_le_bytes_4, le_bytes_2, le_bytes_4, mod_below}
use Rattle.codec.specs.Decoding.{after, byte_at, bytes_at, four_at, two_at}
use Rattle.codec.specs.Encoding.{four_bytes, two_bytes}
use Rattle.codec.proofs.Exact.{Exact, mapped, one_byte, sequence, settled}

-- all are below 256
abbrev pub AllSmall : List ℕ → Type 0
AllSmall [] = Unit {0}
AllSmall (b ∷ bs) = (b < 256) × AllSmall bs

small_at : (bs : List ℕ) → AllSmall bs → (i : ℕ) → get_or bs i 0 < 256
small_at [] h i = omega arith
small_at (b ∷ bs) h zero = h.0
small_at (b ∷ bs) h (suc i) = small_at bs h.1 i

low : (n : ℕ) → n % 256 < 256
low n = mod_below n 256 (omega arith)

pub two_small : (n : ℕ) → AllSmall (two_bytes n)
two_small n = (low n, (low (n / 256), tt))

pub four_small : (n : ℕ) → AllSmall (four_bytes n)
four_small n = (low n, (low (n / 256), (low (n / 65536), (low (n / 16777216), tt))))

-- n bytes
abbrev pub Numbered : ℕ → List ℕ → Type 0
Numbered n bs = (length bs ≡ n) × AllSmall bs

-- behind a byte n more
abbrev Behind : ℕ → ℕ → List ℕ → Type 0
Behind n b all = (bs : List ℕ) × Numbered n bs × (b ∷ bs ≡ all)

more_exact : (n : ℕ) → Exact (bytes_at n) (λ bs. bs) (Numbered n) → (b : ℕ) → Exact (λ s q. after (bytes_at n s q) λ bs t. Ok (b ∷ bs, t)) (drop 1) (Behind n b)
more_exact n E b =
    mapped (bytes_at n) (λ bs. b ∷ bs) (λ bs. bs) (Numbered n) (drop 1) (Behind n b) E
    (λ all l. (l.0, l.1, l.2, ap (drop 1) (sym l.2)))
    (λ bs l. ((bs, l, refl), refl))

split_first : (n : ℕ) (all : List ℕ) → Numbered (suc n) all → (b : ℕ) × (b < 256) × Behind n b all × (all ≡ (b ∷ []) ++ drop 1 all)
split_first n [] l = absurd (omega (arith, l.0))
split_first n (b ∷ bs) l = (b, l.1.0, (bs, (omega (arith, l.0), l.1.1), refl), refl)

join_first : (n b : ℕ) (all : List ℕ) → b < 256 → Behind n b all → Numbered (suc n) all × (all ≡ (b ∷ []) ++ drop 1 all)
join_first n b all h l = subst (λ (all : List ℕ). Numbered (suc n) all × (all ≡ (b ∷ []) ++ drop 1 all)) l.2 ((let e = l.1.0 in omega arith, (h, l.1.1)), refl)

pub bytes_exact : (n : ℕ) → Exact (bytes_at n) (λ bs. bs) (Numbered n)
bytes_exact zero = settled [] (λ bs. bs) (Numbered 0) (λ bs l. sym (nil_from_length bs l.0)) (refl, tt) refl
bytes_exact (suc n) =
    sequence byte_at (λ b s q. after (bytes_at n s q) λ bs t. Ok (b ∷ bs, t)) (λ b. b ∷ []) (λ b. b < 256) (λ b. drop 1) (Behind n) (λ bs. bs) (Numbered (suc n))
    one_byte (λ b l. more_exact n (bytes_exact n) b) (split_first n) (join_first n)

pub two_exact : Exact two_at two_bytes (λ n. n < 2 ^ 16)
two_exact =
    mapped (bytes_at 2) (from_le_bytes w16) (λ bs. bs) (Numbered 2) two_bytes (λ n. n < 2 ^ 16) (bytes_exact 2)
    (λ n l. (two_bytes n, (refl, two_small n), from_le_bytes-to_le_bytes_2 n l, refl))
    (λ bs l. (omega (arith, small_at bs l.1 0, small_at bs l.1 1), le_bytes_2 bs _ l.0 (small_at bs l.1) refl))

pub four_exact : Exact four_at four_bytes (λ n. n < 2 ^ 32)
four_exact =
    mapped (bytes_at 4) (from_le_bytes w32) (λ bs. bs) (Numbered 4) four_bytes (λ n. n < 2 ^ 32) (bytes_exact 4)
    (λ n l. (four_bytes n, (refl, four_small n), from_le_bytes-to_le_bytes_4 n l, refl))
    (λ bs l. (omega (arith, small_at bs l.1 0, small_at bs l.1 1, small_at bs l.1 2, small_at bs l.1 3), le_bytes_4 bs _ l.0 (small_at bs l.1) refl))
