-- Words for the laws of bytes. Assumes nothing.
use Rattle.std.specs.Prelude.{◌≡◌, ℕ, ◌+◌, ◌<◌, List, [], ◌∷◌, ◌++◌, length, Some, None, Ok, Err, Result}
use Rattle.cisca.specs.Making.{parts}
use Rattle.cisca.specs.declared.instruction.Instruction.{Instruction}
use Rattle.codec.specs.Decoding.{decode}
use Rattle.codec.specs.Encoding.{bytes}
use Rattle.codec.specs.Sources.{Bytes, listed}
use Rattle.codec.specs.declared.fault.ReadCause.{ReadCause}
use Rattle.codec.specs.declared.fault.ReadCause.TheVariants.{Digit, Missing, Pairing, UnknownMode, UnknownOperation}
use Rattle.codec.specs.declared.fault.ReadFault.{ReadFault}

-- these bytes lie in the source from the place p on
abbrev pub Lies : Bytes → ℕ → List ℕ → Type 0
Lies s p [] = Unit {0}
Lies s p (b ∷ bs) = (s p ≡ Some b) × Lies s (p + 1) bs

-- the first list begins the second
abbrev pub Begins : {X : Type 0} → List X → List X → Type 0
Begins {X} xs ys = (zs : List X) × (xs ++ zs ≡ ys)

-- the byte at the place k, behind these, begins no record's bytes with them
abbrev pub Barred : Bytes → List ℕ → ℕ → Type 0
Barred s before k = (b : ℕ) × (s k ≡ Some b) × ((i : Instruction) → Begins (before ++ b ∷ []) (bytes i) → ⊥)

-- why a reading stops at the place k, behind these bytes
abbrev pub Stops : Bytes → List ℕ → ReadCause → ℕ → Type 0
Stops s before Missing k = s k ≡ None
Stops s before UnknownOperation k = Barred s before k
Stops s before UnknownMode k = Barred s before k
Stops s before Pairing k = Barred s before k
Stops s before Digit k = Barred s before k

-- a reading from p on is refused at the first byte that is at fault: the bytes before it begin some
-- record's, and are fewer; then there is no byte, or one with which they begin no record's
pub record FirstFault (s : Bytes) (p : ℕ) (f : ReadFault) : Type 0 where
  pub before : List ℕ
  pub lies : Lies s p before
  pub place : f.place.offset ≡ p + length before
  pub begun : (i : Instruction) × Begins before (bytes i) × (length before < length (bytes i))
  pub stops : Stops s before f.cause f.place.offset

-- a record whose bytes lie at the place, whatever follows, is read
abbrev pub ReadsBack : Bytes → ℕ → Result Instruction ReadFault → Type 0
ReadsBack s p r = (i : Instruction) → Lies s p (bytes i) → r ≡ Ok i

-- accepted bytes, up to the place q, are those that the record is written as
abbrev pub WritesBack : Bytes → ℕ → ℕ → Result Instruction ReadFault → Type 0
WritesBack s p q (Ok i) = Lies s p (bytes i) × (q ≡ p + length (bytes i))
WritesBack s p q (Err f) = Unit {0}

abbrev pub StopsAtFirstFault : Bytes → ℕ → Result Instruction ReadFault → Type 0
StopsAtFirstFault s p (Ok i) = Unit {0}
StopsAtFirstFault s p (Err f) = FirstFault s p f

-- what is written of a record reads as the record and its length, whatever follows
abbrev pub ReadFromFront : Instruction → Type 0
ReadFromFront i = (t : List ℕ) → decode (listed (bytes i ++ t)) 0 ≡ Ok (parts i, length (bytes i))
