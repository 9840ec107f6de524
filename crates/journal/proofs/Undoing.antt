-- What an effect changed is taken back. Assumes nothing.
use Rattle.std.proofs.Common.{◌≡◌, ℕ, Some, None, Option, refl, ap, ◌∙◌, arith}
use mathlib.Core.Path.{fun_ext}
use Rattle.std.proofs.lemmas.Bool.Decides.{nat_tests}
use Rattle.journal.specs.Entries.{Undoes, old_at, old_port, restored}
use Rattle.memory.specs.Cells.{Cell}
use Rattle.processor.specs.Views.{sent, stored, view}
use Rattle.processor.specs.declared.effect.PortWrite.{PortWrite}
use Rattle.processor.specs.declared.effect.StoreWrite.{StoreWrite}

unstored : (w : Option StoreWrite) (m : ℕ → Cell) → restored (old_at m w) (stored w m) ≡ m
unstored None m = refl
unstored (Some w) m = fun_ext λ q. grind (arith, nat_tests)

unsent : (w : Option PortWrite) (ws : ℕ → Option ℕ) → sent (old_port ws w) (sent w ws) ≡ ws
unsent None ws = refl
unsent (Some w) ws = fun_ext λ q. grind (arith, nat_tests)

pub undoes : Undoes
undoes e v =
    let m : restored (old_at v.memory e.change.first) (restored (old_at (stored e.change.first v.memory) e.change.second) (stored e.change.second (stored e.change.first v.memory))) ≡ v.memory =
    ap (restored (old_at v.memory e.change.first)) (unstored e.change.second (stored e.change.first v.memory)) ∙ unstored e.change.first v.memory in
    λ i. view v.processor (m i) (unsent e.output v.ports i)
