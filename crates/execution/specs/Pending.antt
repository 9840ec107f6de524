-- A memory as it will be once the words of a change are stored. Assumes nothing.
use Rattle.std.specs.Prelude.{ℕ, ◌/◌, ◌%◌, cond, is_ok, Some, None, Option, ◌==◌}
use Rattle.memory.specs.Cells.{Cell, free}
use Rattle.processor.specs.declared.effect.StoreWrite.{StoreWrite}
use Rattle.quantity.specs.Sums.{later}
use Rattle.words.specs.Words.{word_writing}

-- the byte of the word at q, if it has one there
abbrev pub byte_in : StoreWrite → ℕ → Option ℕ
byte_in w q =
    cond (q == (later w.at 3).0) (Some (w.word.0 / 16777216 % 256))
    (cond (q == (later w.at 2).0) (Some (w.word.0 / 65536 % 256))
    (cond (q == (later w.at 1).0) (Some (w.word.0 / 256 % 256))
    (cond (q == w.at.0) (Some (w.word.0 % 256)) None)))

-- the byte that the word will show at q, where it can be stored
abbrev pub pending_byte : Option StoreWrite → (ℕ → Cell) → ℕ → Option ℕ
pending_byte None m q = None
pending_byte (Some w) m q = cond (is_ok (word_writing m w.at)) (byte_in w q) None

-- a cell with the byte, if there is one
abbrev pub covered : Option ℕ → Cell → Cell
covered None c = c
covered (Some b) c = free b
