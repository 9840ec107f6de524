-- What the layers make of the memories below them. Assumes nothing.
use Rattle.std.specs.Prelude.{◌≡◌, ℕ, ◌+◌, ◌-◌, ◌%◌, ◌^◌, ◌<◌, Bool, cond, ◌&&◌, ◌||◌, nat_le, nat_lt}
use Rattle.memory.specs.Cells.{Cell, fixed, free, nothing}

-- Address space.

-- m at the addresses, and nothing above the last one
abbrev pub addressed : (ℕ → Cell) → ℕ → Cell
addressed m q = cond (nat_lt q (2 ^ 32)) (m q) nothing

-- Bus.

-- f below the address `at`, and g from there on
abbrev pub joined_at : ℕ → (ℕ → Cell) → (ℕ → Cell) → ℕ → Cell
joined_at at f g q = cond (nat_lt q at) (f q) (g q)

-- Window.

-- the address a of m is shown as a minus `by`, wrapping
abbrev pub shifted : ℕ → (ℕ → Cell) → ℕ → Cell
shifted by m q = cond (nat_lt q (2 ^ 32)) (m ((q + by) % 2 ^ 32)) nothing

-- by 0 each address is shown as itself
abbrev pub StillWindow : (ℕ → Cell) → Type 0
StillWindow m = (q : ℕ) → q < 2 ^ 32 → shifted 0 m q ≡ m q

-- Seal.

-- a cell whose byte is fixed
abbrev pub shut : Cell → Cell
shut nothing = nothing
shut (free b) = fixed b
shut (fixed b) = fixed b

-- is q one of the n addresses from `base` on?
abbrev pub covered : ℕ → ℕ → ℕ → Bool
covered base n q = nat_le base q && nat_lt (q - base) n

-- m with those cells shut of which the test holds
abbrev pub shut_where : (ℕ → Bool) → (ℕ → Cell) → ℕ → Cell
shut_where t m q = cond (t q) (shut (m q)) (m q)

-- m with the n bytes from `base` on fixed
abbrev pub sealed : ℕ → ℕ → (ℕ → Cell) → ℕ → Cell
sealed base n m = shut_where (covered base n) m

-- a seal of no bytes changes nothing
abbrev pub EmptySeal : (ℕ → Cell) → Type 0
EmptySeal m = (base : ℕ) → sealed base 0 m ≡ m

-- a seal over a seal fixes the bytes of both ranges
abbrev pub SealsJoin : (ℕ → Cell) → Type 0
SealsJoin m = (a n b k : ℕ) → sealed a n (sealed b k m) ≡ shut_where (λ q. covered a n q || covered b k q) m
