-- The words of a change, once they are stored, show their bytes and change no mark. Assumes nothing.
use Rattle.std.proofs.Common.{◌≡◌, ℕ, cond, is_ok, Some, None, Ok, Err, Option, Result, sym, refl, ap, ◌∙◌, arith}
use Rattle.std.proofs.lemmas.Bool.{cond-false, cond-true}
use Rattle.std.proofs.lemmas.Bool.Decides.{nat_tests}
use Rattle.memory.specs.Cells.{Cell}
use Rattle.processor.specs.Views.{stored}
use Rattle.processor.specs.declared.effect.StoreWrite.{StoreWrite}
use Rattle.quantity.specs.declared.Address.{Address}
use Rattle.words.proofs.Marking.{word_marked}
use Rattle.words.specs.Words.{word_put, word_writing, word_written}
use Rattle.words.specs.declared.fault.WordFault.{WordFault}
use Rattle.execution.specs.Pending.{byte_in, covered, pending_byte}

-- a stored word changes no mark
pub stored_marked : (w : Option StoreWrite) (m : ℕ → Cell) (a : Address) → word_writing (stored w m) a ≡ word_writing m a
stored_marked None m a = refl
stored_marked (Some w) m a = word_marked m w.at w.word.0 a

put_covers : (w : StoreWrite) (m : ℕ → Cell) (q : ℕ) → word_writing m w.at ≡ Ok tt → word_put m w.at w.word.0 q ≡ covered (byte_in w q) (m q)
put_covers w m q e = grind (arith, nat_tests)

word_covers : (w : StoreWrite) (m : ℕ → Cell) (q : ℕ) (r : Result (Unit {0}) WordFault) → word_writing m w.at ≡ r → word_written m w.at w.word.0 q ≡ covered (pending_byte (Some w) m q) (m q)
word_covers w m q (Ok _) e =
    ap (λ (f : ℕ → Cell). f q) (cond-true (is_ok (word_writing m w.at)) (word_put m w.at w.word.0) m (ap is_ok e)) ∙ put_covers w m q e
    ∙ sym (ap (λ o. covered o (m q)) (cond-true (is_ok (word_writing m w.at)) (byte_in w q) None (ap is_ok e)))
word_covers w m q (Err f) e =
    ap (λ (g : ℕ → Cell). g q) (cond-false (is_ok (word_writing m w.at)) (word_put m w.at w.word.0) m (ap is_ok e))
    ∙ sym (ap (λ o. covered o (m q)) (cond-false (is_ok (word_writing m w.at)) (byte_in w q) None (ap is_ok e)))

stored_covers : (w : Option StoreWrite) (m : ℕ → Cell) (q : ℕ) → stored w m q ≡ covered (pending_byte w m q) (m q)
stored_covers None m q = refl
stored_covers (Some w) m q = word_covers w m q (word_writing m w.at) refl

same_byte : (s f : Option StoreWrite) (m : ℕ → Cell) (q : ℕ) → pending_byte s (stored f m) q ≡ pending_byte s m q
same_byte None f m q = refl
same_byte (Some w) f m q = ap (λ r. cond (is_ok r) (byte_in w q) None) (stored_marked f m w.at)

-- both words, the second over the first
pub both_cover : (s f : Option StoreWrite) (m : ℕ → Cell) (q : ℕ) → stored s (stored f m) q ≡ covered (pending_byte s m q) (covered (pending_byte f m q) (m q))
both_cover s f m q = stored_covers s (stored f m) q ∙ (λ j. covered (same_byte s f m q j) (stored_covers f m q j))
