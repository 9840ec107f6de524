-- The laws of whole programs. Assumes nothing.
use Rattle.std.specs.Prelude.{◌≡◌, ℕ, List, map, length, None, Ok, Err}
use Rattle.cisca.specs.Making.{Parts, parts}
use Rattle.cisca.specs.declared.instruction.Instruction.{Instruction}
use Rattle.codec.specs.Laws.{Begins, FirstFault, Lies}
use Rattle.codec.specs.Sources.{Bytes, listed}
use Rattle.codec.specs.declared.fault.ReadFault.{ReadFault}
use Rattle.program.specs.Programs.{program_bytes, whole}

-- the source holds these bytes and no more
abbrev pub Holds : Bytes → List ℕ → Type 0
Holds s bs = Lies s 0 bs × (s (length bs) ≡ None)

-- the bytes of a list of records read as the list
abbrev pub ProgramReadsBack : Bytes → ℕ → Type 0
ProgramReadsBack s n = (is : List Instruction) → Holds s (program_bytes is) → whole s n ≡ Ok (map parts is)

-- what is accepted is the bytes of a list of records, and is read as that list
abbrev pub ProgramWritesBack : Bytes → ℕ → Type 0
ProgramWritesBack s n = (xs : List Parts) → whole s n ≡ Ok xs → (is : List Instruction) × (map parts is ≡ xs) × Holds s (program_bytes is)

-- what is refused begins with the bytes of some records, and is refused at the first fault behind them
abbrev pub ProgramStopsAtFirstFault : Bytes → ℕ → Type 0
ProgramStopsAtFirstFault s n = (f : ReadFault) → whole s n ≡ Err f → (is : List Instruction) × Lies s 0 (program_bytes is) × FirstFault s (length (program_bytes is)) f

-- the bytes of one program begin those of another exactly where its list begins the other's
abbrev pub OneReading : List Instruction → List Instruction → Type 0
OneReading p q = (Begins p q → Begins (program_bytes p) (program_bytes q)) × (Begins (program_bytes p) (program_bytes q) → Begins p q)

-- the bytes of a program, all by themselves, read as its list
abbrev pub ProgramReadWhole : List Instruction → Type 0
ProgramReadWhole is = whole (listed (program_bytes is)) (length (program_bytes is)) ≡ Ok (map parts is)
