-- A processor after a small change. Assumes nothing.
use Rattle.std.specs.Prelude.{ℕ, ◌+◌, ◌-◌, ◌%◌, ◌^◌, slice_set}
use Rattle.arithmetic.specs.Results.{number}
use Rattle.arithmetic.specs.declared.status.Status.{Status}
use Rattle.operands.specs.declared.register.Register.{Register}
use Rattle.processor.specs.Processors.{held}
use Rattle.processor.specs.declared.state.Processor.{Processor}
use Rattle.quantity.specs.Sums.{address}
use Rattle.quantity.specs.declared.Address.{Address}
use Rattle.quantity.specs.declared.Number.{Number}

-- the word n in register i
abbrev pub with_word : Processor → ℕ → Number → Processor
with_word p i n = record { registers = slice_set p.registers i n; pc = p.pc; status = p.status; waiting = p.waiting }

abbrev pub with_register : Processor → Register → Number → Processor
with_register p r n = with_word p r.index n

abbrev pub with_pc : Processor → Address → Processor
with_pc p a = record { registers = p.registers; pc = a; status = p.status; waiting = p.waiting }

abbrev pub with_status : Processor → Status → Processor
with_status p s = record { registers = p.registers; pc = p.pc; status = s; waiting = p.waiting }

-- the top of the stack is at the address in SP, which is R15
abbrev pub stack_top : Processor → Address
stack_top p = address (held p 15).0

-- SP moves by k, wrapping at 2^32
abbrev pub stack_moved : Processor → ℕ → Processor
stack_moved p k = with_word p 15 (number (((held p 15).0 + k) % 2 ^ 32))

-- SP falls by 4
abbrev pub lowered : Processor → Processor
lowered p = stack_moved p (2 ^ 32 - 4)

-- SP rises by 4
abbrev pub raised : Processor → Processor
raised p = stack_moved p 4
