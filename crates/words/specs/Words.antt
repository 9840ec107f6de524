-- The word at an address: four bytes, lowest first. Assumes nothing.
use Rattle.std.specs.Prelude.{◌≡◌, ℕ, ◌+◌, ◌*◌, ◌/◌, ◌%◌, List, [], ◌∷◌, cond, is_ok, Some, Ok, Err, Result}
use Rattle.memory.specs.Access.{reading, writing}
use Rattle.memory.specs.Cells.{Cell, shown, written}
use Rattle.memory.specs.declared.fault.StoreFault.{StoreFault}
use Rattle.quantity.specs.Sums.{later}
use Rattle.quantity.specs.declared.Address.{Address}
use Rattle.quantity.specs.declared.Number.{Number}
use Rattle.words.specs.Faults.{by_byte}
use Rattle.words.specs.declared.fault.WordFault.{WordFault}

-- go on with the value, unless there is a fault
abbrev pub and_then : {X Y F : Type 0} → Result X F → (X → Result Y F) → Result Y F
and_then (Ok x) k = k x
and_then (Err f) k = Err f

-- a byte's answer as the word's
abbrev pub carried : {X : Type 0} → Result X StoreFault → Result X WordFault
carried (Ok x) = Ok x
carried (Err f) = Err (by_byte f)

abbrev pub byte_reading : (ℕ → Cell) → Address → Result ℕ WordFault
byte_reading m a = carried (reading (m a.0) a)

abbrev pub byte_writing : (ℕ → Cell) → Address → Result (Unit {0}) WordFault
byte_writing m a = carried (writing (m a.0) a)

-- what a reading of the four bytes from a on answers
abbrev pub bytes_reading : (ℕ → Cell) → Address → Result (List ℕ) WordFault
bytes_reading m a =
    and_then (byte_reading m a) λ w.
    and_then (byte_reading m (later a 1)) λ x.
    and_then (byte_reading m (later a 2)) λ y.
    and_then (byte_reading m (later a 3)) λ z. Ok (w ∷ x ∷ y ∷ z ∷ [])

-- the number of four bytes, lowest first
abbrev pub number : ℕ → ℕ → ℕ → ℕ → Number
number a b c d = record { 0 = a + b * 256 + c * 65536 + d * 16777216 }

-- what a reading of the word at a answers
abbrev pub word_reading : (ℕ → Cell) → Address → Result Number WordFault
word_reading m a =
    and_then (byte_reading m a) λ w.
    and_then (byte_reading m (later a 1)) λ x.
    and_then (byte_reading m (later a 2)) λ y.
    and_then (byte_reading m (later a 3)) λ z. Ok (number w x y z)

-- the four bytes of the number n are shown from a on
abbrev pub Shows : (ℕ → Cell) → Address → ℕ → Type 0
Shows m a n =
    (shown (m a.0) ≡ Some (n % 256))
    × (shown (m (later a 1).0) ≡ Some (n / 256 % 256))
    × (shown (m (later a 2).0) ≡ Some (n / 65536 % 256))
    × (shown (m (later a 3).0) ≡ Some (n / 16777216 % 256))

-- what a writing of the word at a answers
abbrev pub word_writing : (ℕ → Cell) → Address → Result (Unit {0}) WordFault
word_writing m a =
    and_then (byte_writing m a) λ _.
    and_then (byte_writing m (later a 1)) λ _.
    and_then (byte_writing m (later a 2)) λ _. byte_writing m (later a 3)

-- a memory with the four bytes of n written from a on
abbrev pub word_put : (ℕ → Cell) → Address → ℕ → ℕ → Cell
word_put m a n =
    written (written (written (written m a.0 (n % 256)) (later a 1).0 (n / 256 % 256)) (later a 2).0 (n / 65536 % 256)) (later a 3).0 (n / 16777216 % 256)

-- a memory after the writing of the word n at a: all four bytes, or none where it is refused
abbrev pub word_written : (ℕ → Cell) → Address → ℕ → ℕ → Cell
word_written m a n = cond (is_ok (word_writing m a)) (word_put m a n) m

-- what a writing of n at a answers, with the word that is then read
abbrev pub word_verified : (ℕ → Cell) → Address → Number → Result Number WordFault
word_verified m a n = and_then (word_writing m a) λ _. Ok n
