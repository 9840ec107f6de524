-- What a port bank means: for each port number, a word or nothing. Assumes nothing.
use Rattle.std.specs.Prelude.{ℕ, ◌+◌, ◌*◌, ◌^◌, Bool, cond, ◌&&◌, List, Some, None, Ok, Err, Option, Result, ◌==◌, nat_lt, slice_index_or}
use Rattle.memory.specs.Cells.{Cell, fixed, free, nothing}
use Rattle.ports.specs.declared.fault.PortFault.{PortFault}
use Rattle.ports.specs.declared.fault.PortFault.TheVariants.{Absent}
use Rattle.quantity.specs.Sums.{later}
use Rattle.quantity.specs.declared.Address.{Address}
use Rattle.quantity.specs.declared.Number.{Number}
use Rattle.quantity.specs.declared.Port.{Port}

-- what a reading of port p answers
abbrev pub getting : Option ℕ → Port → Result Number PortFault
getting None p = Err (Absent p)
getting (Some n) p = Ok (record { 0 = n })

-- what a writing to port p answers
abbrev pub setting : Option ℕ → Port → Result (Unit {0}) PortFault
setting None p = Err (Absent p)
setting (Some _) p = Ok tt

-- a port after the word n was written to it
abbrev pub over : Option ℕ → ℕ → Option ℕ
over None n = None
over (Some _) n = Some n

-- a bank after the word n was written to port p
abbrev pub replaced : (ℕ → Option ℕ) → ℕ → ℕ → ℕ → Option ℕ
replaced f p n q = cond (q == p) (over (f q) n) (f q)

-- Port space.

-- f at the port numbers, and nothing above the last one
abbrev pub numbered : (ℕ → Option ℕ) → ℕ → Option ℕ
numbered f q = cond (nat_lt q (2 ^ 32)) (f q) None

-- Table.

-- the words of a table of 64
abbrev pub tabled : List Number → ℕ → Option ℕ
tabled ws q = cond (nat_lt q 64) (Some (slice_index_or ws q (record { 0 = 0 })).0) None

-- which word of a table is that of port p, or a refusal
abbrev pub finding : Port → Result ℕ PortFault
finding p = cond (nat_lt p.0 64) (Ok p.0) (Err (Absent p))

-- Mapped.

-- the byte of a free cell
abbrev pub free_byte : Cell → Option ℕ
free_byte nothing = None
free_byte (free b) = Some b
free_byte (fixed _) = None

-- the word of four bytes, lowest first, where all are there
abbrev pub word_of : Option ℕ → Option ℕ → Option ℕ → Option ℕ → Option ℕ
word_of None _ _ _ = None
word_of (Some w) None _ _ = None
word_of (Some w) (Some x) None _ = None
word_of (Some w) (Some x) (Some y) None = None
word_of (Some w) (Some x) (Some y) (Some z) = Some (w + x * 256 + y * 65536 + z * 16777216)

-- the word at a, where its four bytes are free
abbrev pub free_word : (ℕ → Cell) → Address → Option ℕ
free_word m a = word_of (free_byte (m a.0)) (free_byte (m (later a 1).0)) (free_byte (m (later a 2).0)) (free_byte (m (later a 3).0))

-- the ports below the count and below 256
abbrev pub within_bank : ℕ → ℕ → Bool
within_bank count q = nat_lt q count && nat_lt q 256

-- where the word of port p lies, or a refusal
abbrev pub placing : ℕ → Address → Port → Result Address PortFault
placing count base p = cond (within_bank count p.0) (Ok (later base (4 * p.0))) (Err (Absent p))

-- the words of a store from `base` on, `count` of them and at most 256
abbrev pub mapped : ℕ → Address → (ℕ → Cell) → ℕ → Option ℕ
mapped count base m q = cond (within_bank count q) (free_word m (later base (4 * q))) None
