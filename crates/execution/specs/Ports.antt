-- The instructions on ports. Assumes nothing.
use Rattle.std.specs.Prelude.{ℕ, Ok, Option, Result}
use Rattle.actions.specs.declared.action.MemoryOperand.{MemoryOperand}
use Rattle.operands.specs.declared.register.Register.{Register}
use Rattle.ports.specs.Banks.{getting, setting}
use Rattle.processor.specs.Processors.{register_word}
use Rattle.processor.specs.declared.effect.PortWrite.{PortWrite}
use Rattle.processor.specs.declared.fault.Cause.{Cause}
use Rattle.processor.specs.declared.fault.Cause.TheVariants as cause
use Rattle.processor.specs.declared.state.Processor.{Processor}
use Rattle.quantity.specs.declared.Port.{Port}
use Rattle.words.specs.Words.{and_then}
use Rattle.execution.specs.Contexts.{blamed, effective}
use Rattle.processor.specs.Registers.{with_register}

-- the effective address is the port's number
abbrev pub port : Processor → MemoryOperand → Port
port p m = record { 0 = (effective p m).0 }

-- IN: the port's word goes to the register
abbrev pub taking : Processor → (ℕ → Option ℕ) → Register → MemoryOperand → Result Processor Cause
taking p ws r m = and_then (blamed cause.Port (getting (ws (port p m).0) (port p m))) λ n. Ok (with_register p r n)

-- OUT: the register's word goes to the port
abbrev pub giving : Processor → (ℕ → Option ℕ) → MemoryOperand → Register → Result PortWrite Cause
giving p ws m r = and_then (blamed cause.Port (setting (ws (port p m).0) (port p m))) λ _. Ok (record { port = port p m; word = register_word p r })
