-- A word that was written is read back. Assumes nothing.
use Rattle.std.proofs.Common.{◌≡◌, ℕ, ◌^◌, ◌<◌, is_ok, Ok, Result, sym, ap, ◌∙◌, arith}
use Rattle.std.proofs.lemmas.Nat.{mod-pow-add}
use Rattle.std.proofs.lemmas.Bool.{cond-true}
use Rattle.std.proofs.lemmas.Bool.Decides.{nat_tests}
use Rattle.memory.specs.Cells.{Cell}
use Rattle.quantity.specs.declared.Address.{Address}
use Rattle.quantity.specs.declared.Number.{Number}
use Rattle.words.specs.Words.{and_then, word_put, word_reading, word_verified, word_writing, word_written}
use Rattle.words.specs.declared.fault.WordFault.{WordFault}

same_word : (m : ℕ → Cell) (a : Address) (n : Number) → n.0 < 2 ^ 32 → word_writing m a ≡ Ok tt → word_reading (word_put m a n.0) a ≡ Ok n
same_word m a n h e = grind (arith, nat_tests, mod-pow-add n.0 8 8, mod-pow-add n.0 8 16, mod-pow-add n.0 8 24)

pub verifies : (m m' : ℕ → Cell) (a : Address) (n : Number) (r : Result Number WordFault) → n.0 < 2 ^ 32 → Ok tt ≡ word_writing m a → m' ≡ word_written m a n.0 → r ≡ word_reading m' a → r ≡ word_verified m a n
verifies m m' a n r h taken after read =
    let put : m' ≡ word_put m a n.0 = after ∙ cond-true (is_ok (word_writing m a)) _ _ (ap is_ok (sym taken)) in
    read ∙ rw put (same_word m a n h (sym taken)) ∙ ap (λ (t : Result (Unit {0}) WordFault). and_then t λ _. Ok n) taken
