-- A program laid out: at each offset the record that starts there. Assumes nothing.
use Rattle.std.specs.Prelude.{ℕ, ◌-◌, Bool, true, false, cond, ◌&&◌, List, [], ◌∷◌, length, replicate, Some, None, Ok, Err, Option, Result, ◌==◌, nat_le, nat_lt}
use Rattle.std.specs.List.{filter_map, flat_map}
use Rattle.cisca.specs.declared.instruction.Instruction.{Instruction}
use Rattle.codec.specs.Encoding.{bytes}
use Rattle.loading.specs.declared.layout.fault.LayoutFault.{LayoutFault}
use Rattle.loading.specs.declared.layout.fault.LayoutFault.TheVariants as fault
use Rattle.program.specs.Programs.{program_bytes}

-- the record that starts at the offset k, where its bytes begin
abbrev pub starting : List Instruction → ℕ → Option Instruction
starting [] k = None
starting (i ∷ is) k = cond (k == 0) (Some i) (cond (nat_lt k (length (bytes i))) None (starting is (k - length (bytes i))))

-- a record at its first byte, and nothing at its other bytes
abbrev pub room_of : Instruction → List (Option Instruction)
room_of i = Some i ∷ replicate (length (bytes i) - 1) None

-- the records one behind the other
abbrev pub laid_out : List Instruction → List (Option Instruction)
laid_out is = flat_map room_of is

-- the records in a layout
abbrev pub listed_records : List (Option Instruction) → List Instruction
listed_records os = filter_map (λ o. o) os

-- a program has no record
abbrev pub none_listed : List Instruction → Bool
none_listed [] = true
none_listed (i ∷ is) = false

-- a program has at most 4096 bytes
abbrev pub short : List Instruction → Bool
short is = nat_le (length (program_bytes is)) 4096

-- may a layout of this program take up another? It may where it has no record, and the other is short.
abbrev pub fits : List Instruction → List Instruction → Bool
fits old new = none_listed old && short new

-- what is answered to that: a record that is there already comes first
abbrev pub taking_up : List Instruction → List Instruction → Result (Unit {0}) LayoutFault
taking_up old new = cond (none_listed old) (cond (short new) (Ok tt) (Err fault.TooLong)) (Err fault.Listed)

-- the program of a layout that is to take up another
abbrev pub relisted : List Instruction → List Instruction → List Instruction
relisted old new = cond (fits old new) new old
