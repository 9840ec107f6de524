-- A word that was written changes no mark: what may be written stays so. Assumes nothing.
use Rattle.std.proofs.Common.{◌≡◌, ℕ, Bool, true, false, cond, eqb, is_ok, refl}
use Rattle.memory.specs.Access.{writing}
use Rattle.memory.specs.Cells.{Cell, fixed, free, nothing, stored, written}
use Rattle.quantity.specs.declared.Address.{Address}
use Rattle.words.specs.Words.{byte_writing, carried, word_put, word_writing, word_written}

cell_marked : (t : Bool) (c : Cell) (b : ℕ) (a : Address) → carried (writing (cond t (stored c b) c) a) ≡ carried (writing c a)
cell_marked true nothing b a = refl
cell_marked true (free _) b a = refl
cell_marked true (fixed _) b a = refl
cell_marked false c b a = refl

byte_marked : (m : ℕ → Cell) (x b : ℕ) (a : Address) → byte_writing (written m x b) a ≡ byte_writing m a
byte_marked m x b a = cell_marked (eqb a.0 x) (m a.0) b a

word_marked_if : (t : Bool) (m : ℕ → Cell) (x : Address) (n : ℕ) (a : Address) → byte_writing (cond t (word_put m x n) m) a ≡ byte_writing m a
word_marked_if true m x n a = simp byte_marked
word_marked_if false m x n a = refl

pub word_marked : (m : ℕ → Cell) (x : Address) (n : ℕ) (a : Address) → word_writing (word_written m x n) a ≡ word_writing m a
word_marked m x n a = simp (word_marked_if (is_ok (word_writing m x)) m x n)
