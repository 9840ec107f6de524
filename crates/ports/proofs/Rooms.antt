-- What the writing of one word makes of the words of a bank. Assumes nothing.
use Rattle.std.proofs.Common.{◌≡◌, ℕ, ◌*◌, ◌^◌, ◌<◌, is_ok, Some, None, Ok, Err, Result, sym, refl, ap, ◌∙◌, arith}
use mathlib.Core.Path.{fun_ext}
use Rattle.std.proofs.lemmas.Nat.{mod-pow-add}
use Rattle.std.proofs.lemmas.Bool.{cond-false, cond-true}
use Rattle.std.proofs.lemmas.Bool.Decides.{nat_tests}
use Rattle.memory.specs.Cells.{Cell}
use Rattle.ports.specs.Banks.{free_word, mapped, placing, replaced, setting}
use Rattle.quantity.specs.Sums.{later}
use Rattle.quantity.specs.declared.Address.{Address}
use Rattle.quantity.specs.declared.Port.{Port}
use Rattle.words.specs.Words.{word_put, word_writing, word_written}
use Rattle.words.specs.declared.fault.WordFault.{WordFault}

-- a word that was written reads as itself
same_word : (m : ℕ → Cell) (a : Address) (n : ℕ) → n < 2 ^ 32 → word_writing m a ≡ Ok tt → free_word (word_put m a n) a ≡ Some n
same_word m a n h e = grind (arith, nat_tests, mod-pow-add n 8 8, mod-pow-add n 8 16, mod-pow-add n 8 24)

-- the words of two ports lie apart
other_word : (m : ℕ → Cell) (base : Address) (p n : ℕ) → p < 256 → (q : ℕ) → q < 256 → (q ≡ p → ⊥) → free_word (word_put m (later base (4 * p)) n) (later base (4 * q)) ≡ free_word m (later base (4 * q))
other_word m base p n low q h ne = grind (arith, nat_tests)

-- the words of a bank after the word of port p was written, or refused
port_written : (m : ℕ → Cell) (base : Address) (p n count : ℕ) → n < 2 ^ 32 → p < 256 → p < count → (r : Result (Unit {0}) WordFault) → word_writing m (later base (4 * p)) ≡ r → mapped count base (word_written m (later base (4 * p)) n) ≡ replaced (mapped count base m) p n
port_written m base p n count fits low counted (Ok _) e =
    let s = same_word m (later base (4 * p)) n fits e in
    ap (mapped count base) (cond-true (is_ok (word_writing m (later base (4 * p)))) _ _ (ap is_ok e))
    ∙ fun_ext λ q. let o = other_word m base p n low q in grind (arith, nat_tests)
port_written m base p n count fits low counted (Err f) e =
    let z : mapped count base m p ≡ None = grind (arith, nat_tests) in
    ap (mapped count base) (cond-false (is_ok (word_writing m (later base (4 * p)))) _ _ (ap is_ok e)) ∙ fun_ext λ q. grind (arith, nat_tests)

-- a bank after a word was written, or refused, where the word of one of its ports lies
pub port_after : (m m' : ℕ → Cell) (base a : Address) (p : Port) (n count : ℕ) → n < 2 ^ 32 → Ok a ≡ placing count base p → m' ≡ word_written m a n → mapped count base m' ≡ replaced (mapped count base m) p.0 n
port_after m m' base a p n count fits placed after =
    let low : p.0 < 256 = grind (arith, nat_tests) in
    let counted : p.0 < count = grind (arith, nat_tests) in
    let at : a ≡ later base (4 * p.0) = grind (arith, nat_tests) in
    ap (mapped count base) (after ∙ ap (λ x. word_written m x n) at) ∙ port_written m base p.0 n count fits low counted _ refl

-- what a bank answers, and holds where it refuses, by the word of one of its ports
module _ (m m' : ℕ → Cell) (base a : Address) (p n count : ℕ) (low : p < 256) (counted : p < count) (at : a ≡ later base (4 * p)) (after : m' ≡ word_written m a n) where
  pub port_taken : (q : Port) → Ok tt ≡ word_writing m a → Ok tt ≡ setting (mapped count base m p) q
  port_taken q ok =
      let e : word_writing m (later base (4 * p)) ≡ Ok tt = ap (word_writing m) (sym at) ∙ sym ok in
      grind (arith, nat_tests)

  pub port_none : (f : WordFault) → Err f ≡ word_writing m a → mapped count base m p ≡ None
  port_none f ok =
      let e : word_writing m (later base (4 * p)) ≡ Err f = ap (word_writing m) (sym at) ∙ sym ok in
      grind (arith, nat_tests)

  pub port_stays : (f : WordFault) → Err f ≡ word_writing m a → mapped count base m' ≡ replaced (mapped count base m) p n
  port_stays f ok =
      let z = port_none f ok in
      ap (mapped count base) (after ∙ cond-false (is_ok (word_writing m a)) _ _ (ap is_ok (sym ok))) ∙ fun_ext λ q. grind (arith, nat_tests)
