-- A whole program: its bytes, and its reading. Assumes nothing.
use Rattle.std.specs.Prelude.{ℕ, zero, suc, cond, List, [], ◌∷◌, ◌++◌, length, drop, Some, None, Ok, Err, Option, Result, nat_lt}
use Rattle.std.specs.List.{flat_map}
use Rattle.cisca.specs.Making.{Parts}
use Rattle.cisca.specs.declared.instruction.Instruction.{Instruction}
use Rattle.codec.specs.Decoding.{Read, decode}
use Rattle.codec.specs.Encoding.{bytes}
use Rattle.codec.specs.Sources.{Bytes}
use Rattle.codec.specs.declared.fault.ReadFault.{ReadFault}
use Rattle.program.specs.declared.fault.ProgramFault.{ProgramFault}
use Rattle.program.specs.declared.fault.ProgramFault.TheVariants as fault

-- the bytes of its records in order
abbrev pub program_bytes : List Instruction → List ℕ
program_bytes is = flat_map bytes is

-- records by their parts, or a refusal
abbrev pub Records : Type 0
Records = Result (List Parts) ReadFault

-- some records, and behind them what is read next
abbrev pub onto : List Parts → Records → Records
onto xs (Ok ys) = Ok (xs ++ ys)
onto xs (Err f) = Err f

abbrev pub behind : Read Parts → (ℕ → Records) → Records
behind (Ok x) k = onto (x.0 ∷ []) (k x.1)
behind (Err f) k = Err f

-- nothing more where there is no byte
abbrev pub unless_ended : Option ℕ → Records → Records
unless_ended None r = Ok []
unless_ended (Some b) r = r

-- at most so many records from the place p on, up to the end
abbrev pub read_from : ℕ → Bytes → ℕ → Records
read_from zero s p = Ok []
read_from (suc n) s p = unless_ended (s p) (behind (decode s p) λ q. read_from n s q)

-- the whole of a source that ends by the place n: it has at most n records
abbrev pub whole : Bytes → ℕ → Records
whole s n = read_from n s 0

-- what it answers to read these records into a list of this length: how many they are
abbrev pub filling : Records → ℕ → Result ℕ ProgramFault
filling (Ok xs) room = cond (nat_lt room (length xs)) (Err fault.Short) (Ok (length xs))
filling (Err f) room = Err (fault.Read f)

-- the list then: the records, and behind them what it held; or all as it was, if they are refused
abbrev pub filled : Records → List Parts → List Parts
filled (Ok xs) old = cond (nat_lt (length old) (length xs)) old (xs ++ drop (length xs) old)
filled (Err f) old = old

-- how many records there are
abbrev pub counted : Records → Result ℕ ReadFault
counted (Ok xs) = Ok (length xs)
counted (Err f) = Err f
