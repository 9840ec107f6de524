-- The index of an interrupt. Assumes nothing.
use Rattle.std.specs.Prelude.{ℕ, ◌%◌, cond, Ok, Err, Result, nat_lt}
use Rattle.std.proofs.Common.{arith, lt→ltb}
use Rattle.std.proofs.lemmas.Nat.{mod_below}
use Rattle.processor.specs.declared.interrupt.InterruptIndex.{InterruptIndex}
use Rattle.processor.specs.declared.interrupt.making.IndexFault.{IndexFault}

-- the index of the low six bits of n
unfoldable pub index_of : ℕ → InterruptIndex
index_of n = record { value = n % 64; below = lt→ltb (n % 64) 64 (mod_below n 64 (omega arith)) }

-- what is answered to a number: its index, or a refusal above 63
abbrev pub indexing : ℕ → Result InterruptIndex IndexFault
indexing n = cond (nat_lt n 64) (Ok (index_of n)) (Err (record {}))
