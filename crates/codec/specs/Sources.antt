-- A source of bytes: at each place a byte, or nothing. Assumes nothing.
use Rattle.std.specs.Prelude.{◌≡◌, ℕ, ◌%◌, ◌<◌, ◌≤◌, Bool, true, false, cond, List, length, Some, None, Option, nat_lt, slice_index}
use Rattle.std.proofs.Common.{subst, arith}
use Rattle.std.proofs.lemmas.Nat.{mod_below}
use Rattle.std.proofs.lemmas.Bool.{cond-false, le-ltb}
use Rattle.memory.specs.Cells.{Cell, fixed, free, nothing, shown}
use Rattle.quantity.specs.Sums.{later}
use Rattle.quantity.specs.declared.Address.{Address}

-- at each place a byte, or nothing
abbrev pub Bytes : Type 0
Bytes = ℕ → Option ℕ

-- a byte string; a number above 255 stands for its low eight bits
abbrev pub listed : List ℕ → Bytes
listed l p = cond (nat_lt p (length l)) (Some (slice_index l p % 256)) None

-- what a memory shows from an address on, up to a length
abbrev pub memory_span : (ℕ → Cell) → Address → ℕ → Bytes
memory_span m first n p = cond (nat_lt p n) (shown (m (later first p).0)) None

-- every byte is below 256
abbrev pub Small : Bytes → Type 0
Small s = (p b : ℕ) → s p ≡ Some b → b < 256

low_byte : (x b : ℕ) → Some (x % 256) ≡ Some b → b < 256
low_byte x b e = let q : x % 256 ≡ b = cc in subst (λ n. n < 256) q (mod_below x 256 (omega arith))

none_is : (b : ℕ) → ◌≡◌ {A = Option ℕ} None (Some b) → b < 256
none_is b e = let z : ◌≡◌ {A = ℕ} 0 1 = cc in absurd (omega arith)

small_if : (t : Bool) (o : Option ℕ) (b : ℕ) → ((c : ℕ) → o ≡ Some c → c < 256) → cond t o None ≡ Some b → b < 256
small_if true o b h e = h b e
small_if false o b h e = none_is b e

shown_small : (c : Cell) (b : ℕ) → shown c ≡ Some b → b < 256
shown_small nothing b e = none_is b e
shown_small (free x) b e = low_byte x b e
shown_small (fixed x) b e = low_byte x b e

pub listed_small : (l : List ℕ) → Small (listed l)
listed_small l p b e = small_if (nat_lt p (length l)) _ b (low_byte (slice_index l p)) e

pub span_small : (m : ℕ → Cell) (first : Address) (n : ℕ) → Small (memory_span m first n)
span_small m first n p b e = small_if (nat_lt p n) _ b (shown_small (m (later first p).0)) e

-- there is no byte at the place n or behind it
abbrev pub EndsBy : Bytes → ℕ → Type 0
EndsBy s n = (p : ℕ) → n ≤ p → s p ≡ None

ends_if : (p n : ℕ) (o : Option ℕ) → n ≤ p → cond (nat_lt p n) o None ≡ None
ends_if p n o h = cond-false _ _ _ (le-ltb p n h)

pub listed_ends : (l : List ℕ) → EndsBy (listed l) (length l)
listed_ends l p h = ends_if p (length l) _ h

pub span_ends : (m : ℕ → Cell) (first : Address) (n : ℕ) → EndsBy (memory_span m first n) n
span_ends m first n p h = ends_if p n _ h
