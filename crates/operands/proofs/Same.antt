-- Registers are equal where their numbers are. Assumes nothing.
use mathlib.Core.HLevel.{is_prop→PathP}
use Rattle.std.proofs.Common.{◌≡◌, T, ltb}
use lib.Dec.{T_prop}
use Rattle.operands.specs.declared.register.Register.{Register}

pub same_register : (r s : Register) → r.index ≡ s.index → r ≡ s
same_register r s e = λ i. record { index = e i; below = is_prop→PathP (λ i. T (ltb (e i) 16)) (λ i. T_prop (ltb (e i) 16)) r.below s.below i }
