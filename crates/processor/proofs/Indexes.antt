-- Indexes are equal where their numbers are. Assumes nothing.
use mathlib.Core.HLevel.{is_prop→PathP}
use Rattle.std.proofs.Common.{◌≡◌, T, ltb}
use lib.Dec.{T_prop}
use Rattle.processor.specs.declared.interrupt.InterruptIndex.{InterruptIndex}

pub same_index : (i j : InterruptIndex) → i.value ≡ j.value → i ≡ j
same_index i j e = λ k. record { value = e k; below = is_prop→PathP (λ k. T (ltb (e k) 64)) (λ k. T_prop (ltb (e k) 64)) i.below j.below k }
