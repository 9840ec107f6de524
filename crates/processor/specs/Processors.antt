-- What a processor holds. Assumes nothing.
use Rattle.std.specs.Prelude.{ℕ, false, cond, replicate, None, Option, slice_index_or}
use Rattle.arithmetic.specs.Results.{number}
use Rattle.arithmetic.specs.declared.status.Status.{Status}
use Rattle.operands.specs.declared.register.Register.{Register}
use Rattle.processor.specs.declared.interrupt.InterruptIndex.{InterruptIndex}
use Rattle.processor.specs.declared.state.Processor.{Processor}
use Rattle.quantity.specs.declared.Address.{Address}
use Rattle.quantity.specs.declared.Number.{Number}

abbrev pub clear : Status
clear = record { zero = false; sign = false; carry = false; overflow = false; enabled = false }

-- all registers and bits 0, and PC at an address
abbrev pub blank : Address → Processor
blank a = record { registers = replicate 16 (number 0); pc = a; status = clear; waiting = None }

-- the word in register i
abbrev pub held : Processor → ℕ → Number
held p i = slice_index_or p.registers i (number 0)

abbrev pub register_word : Processor → Register → Number
register_word p r = held p r.index

-- the interrupt that the next step delivers
abbrev pub due : Processor → Option InterruptIndex
due p = cond p.status.enabled p.waiting None
