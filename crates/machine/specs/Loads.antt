-- What a load answers, and what it leaves. Assumes nothing.
use Rattle.std.specs.Prelude.{ℕ, ◌+◌, Bool, not, ◌&&◌, List, length, is_some, Some, Ok, Result, nat_le}
use Rattle.cisca.specs.declared.instruction.Instruction.{Instruction}
use Rattle.execution.specs.Contexts.{blamed}
use Rattle.journal.specs.Stories.{begun}
use Rattle.loading.specs.Laid.{laid, vacancy}
use Rattle.loading.specs.Layouts.{none_listed, short}
use Rattle.machine.specs.States.{Said, State, granted, present, upon}
use Rattle.machine.specs.declared.fault.CallFault.{CallFault}
use Rattle.machine.specs.declared.fault.CallFault.TheVariants as fault
use Rattle.memory.specs.Layers.{sealed}
use Rattle.processor.specs.Processors.{blank}
use Rattle.processor.specs.Views.{View, view}
use Rattle.program.specs.Programs.{program_bytes}
use Rattle.quantity.specs.declared.Address.{Address}
use Rattle.words.specs.Words.{and_then}

-- do n bytes from a on lie within 00000100h to FFFEFFFFh?
abbrev pub in_range : Address → ℕ → Bool
in_range a n = nat_le 0x100 a.0 && nat_le (a.0 + n) 0xffff0000

-- the length of a program that may be loaded, or the first refusal. The tests in their order: nothing is loaded yet,
-- there is an instruction, at most 4,096 bytes, within the range for programs, and each byte of the program's range upward
abbrev pub admitted : Address → List Instruction → State → Result ℕ CallFault
admitted a is s =
    and_then (granted (not (is_some s.program)) fault.Loaded) λ _.
    and_then (granted (not (none_listed is)) fault.Empty) λ _.
    and_then (granted (short is) fault.TooLong) λ _.
    and_then (granted (in_range a (length (program_bytes is))) fault.OutOfRange) λ _.
    and_then (blamed fault.Byte (vacancy (present s).memory a (length (program_bytes is)))) λ _. Ok (length (program_bytes is))

abbrev pub load_said : Address → List Instruction → State → Said
load_said a is s = and_then (admitted a is s) λ _. Ok tt

-- the program's bytes are written and sealed, registers and status are zeroed, and PC is the address
abbrev pub loaded_view : Address → List Instruction → View → View
loaded_view a is v = view (blank a) (sealed a.0 (length (program_bytes is)) (laid v.memory a (program_bytes is))) v.ports

abbrev pub installed : Address → List Instruction → State → State
installed a is s = record { program = Some (a, is); story = begun (loaded_view a is (present s)) }

abbrev pub load_made : Address → List Instruction → State → State
load_made a is s = upon (admitted a is s) (installed a is s) s
