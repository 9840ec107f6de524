-- What takes an effect back. Assumes nothing.
use Rattle.std.specs.Prelude.{◌≡◌, ℕ, [], ◌∷◌, Some, None, Option, slice_index}
use Rattle.journal.specs.declared.entry.Entry.{Entry}
use Rattle.journal.specs.declared.entry.OldWord.{OldWord}
use Rattle.memory.specs.Cells.{Cell, fixed, free, nothing, written}
use Rattle.processor.specs.Views.{View, applied, sent, stored, view}
use Rattle.processor.specs.declared.effect.Effect.{Effect}
use Rattle.processor.specs.declared.effect.PortWrite.{PortWrite}
use Rattle.processor.specs.declared.effect.StoreWrite.{StoreWrite}
use Rattle.quantity.specs.Sums.{later}
use Rattle.quantity.specs.declared.Address.{Address}
use Rattle.quantity.specs.declared.Port.{Port}

-- the byte of a cell
abbrev pub byte_of : Cell → Option ℕ
byte_of nothing = None
byte_of (free b) = Some b
byte_of (fixed b) = Some b

abbrev pub four_bytes : Address → Option ℕ → Option ℕ → Option ℕ → Option ℕ → Option OldWord
four_bytes a None _ _ _ = None
four_bytes a (Some w) None _ _ = None
four_bytes a (Some w) (Some x) None _ = None
four_bytes a (Some w) (Some x) (Some y) None = None
four_bytes a (Some w) (Some x) (Some y) (Some z) = Some (record { at = a; bytes = w ∷ x ∷ y ∷ z ∷ [] })

-- the four bytes from a on, where there are four
abbrev pub old_word : (ℕ → Cell) → Address → Option OldWord
old_word m a = four_bytes a (byte_of (m a.0)) (byte_of (m (later a 1).0)) (byte_of (m (later a 2).0)) (byte_of (m (later a 3).0))

-- what a memory holds where a word is to be stored
abbrev pub old_at : (ℕ → Cell) → Option StoreWrite → Option OldWord
old_at m None = None
old_at m (Some w) = old_word m w.at

-- a memory with the bytes put back
abbrev pub restored : Option OldWord → (ℕ → Cell) → ℕ → Cell
restored None m = m
restored (Some o) m =
    written (written (written (written m o.at.0 (slice_index o.bytes 0)) (later o.at 1).0 (slice_index o.bytes 1)) (later o.at 2).0 (slice_index o.bytes 2)) (later o.at 3).0 (slice_index o.bytes 3)

abbrev pub port_word : Port → Option ℕ → Option PortWrite
port_word p None = None
port_word p (Some n) = Some (record { port = p; word = record { 0 = n } })

-- what a bank holds where a word is to be sent
abbrev pub old_port : (ℕ → Option ℕ) → Option PortWrite → Option PortWrite
old_port ws None = None
old_port ws (Some w) = port_word w.port (ws w.port.0)

-- the entry that takes an effect on a view back
abbrev pub entry_of : Effect → View → Entry
entry_of e v = record {
  processor = v.processor;
  first = old_at v.memory e.change.first;
  second = old_at (stored e.change.first v.memory) e.change.second;
  output = old_port v.ports e.output;
}

-- a view with an entry taken back
abbrev pub undone : Entry → View → View
undone e v = view e.processor (restored e.first (restored e.second v.memory)) (sent e.output v.ports)

-- what an effect changed is taken back, whatever the effect and the view
abbrev pub Undoes : Type 0
Undoes = (e : Effect) (v : View) → undone (entry_of e v) (applied e v) ≡ v
