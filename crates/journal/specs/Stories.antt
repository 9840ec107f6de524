-- What a journal stands for: the view now, and the views before each effect that was recorded. Assumes nothing.
use Rattle.std.specs.Prelude.{ℕ, Bool, cond, List, [], ◌∷◌, reverse, length, Ok, Err, vec_items, Option, Result, nat_lt}
use Rattle.journal.specs.Entries.{undone}
use Rattle.journal.specs.declared.entry.Entry.{Entry}
use Rattle.journal.specs.declared.journaled.Journaled.{Journaled}
use Rattle.journal.specs.declared.journaled.calls.JournalEmpty.{JournalEmpty}
use Rattle.journal.specs.declared.journaled.calls.JournalFull.{JournalFull}
use Rattle.memory.specs.Cells.{Cell}
use Rattle.processor.specs.Views.{View, applied, view}
use Rattle.processor.specs.declared.effect.Effect.{Effect}

-- past: the views before each recorded effect, the latest first
pub record Story : Type 0 where
  pub present : View
  pub past : List View

abbrev pub begun : View → Story
begun v = record { present = v; past = [] }

-- one view more, to which the one before can be gone back from
abbrev pub journaled : View → Story → Story
journaled v s = record { present = v; past = s.present ∷ s.past }

-- nothing can be gone back to any more
abbrev pub forgotten : Story → Story
forgotten s = begun s.present

-- fewer than 256 entries
abbrev pub roomy : Story → Bool
roomy s = nat_lt (length s.past) 256

abbrev pub record_answer : Story → Result (Unit {0}) JournalFull
record_answer s = cond (roomy s) (Ok tt) (Err (record {}))

abbrev pub record_story : Effect → Story → Story
record_story e s = cond (roomy s) (journaled (applied e s.present) s) s

abbrev pub back_answer : List View → Result (Unit {0}) JournalEmpty
back_answer [] = Err (record {})
back_answer (v ∷ vs) = Ok tt

-- the latest view before becomes the present one
abbrev pub back_story : List View → Story → Story
back_story [] s = s
back_story (v ∷ vs) s = record { present = v; past = vs }

-- the views before each of these entries, the latest first
abbrev pub earlier : List Entry → View → List View
earlier [] v = []
earlier (e ∷ es) v = undone e v ∷ earlier es (undone e v)

-- the story of a view and the entries that led to it, the latest last
abbrev pub told : View → List Entry → Story
told v es = record { present = v; past = earlier (reverse es) v }

abbrev pub view_of : {M P : Type 0} → (M → ℕ → Cell) → (P → ℕ → Option ℕ) → Journaled M P → View
view_of cells words t = view t.processor (cells t.memory) (words t.ports)

abbrev pub story_of : {M P : Type 0} → (M → ℕ → Cell) → (P → ℕ → Option ℕ) → Journaled M P → Story
story_of cells words t = told (view_of cells words t) (vec_items t.entries)
