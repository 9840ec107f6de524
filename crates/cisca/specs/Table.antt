-- The table of operations: each with its byte, its name and its operand group. Assumes nothing.
use Rattle.std.specs.Prelude.{◌≡◌, ℕ, ◌-◌, List, [], ◌∷◌, ◌++◌, length, map, replicate, Some, None, codes, Option, Result, MatchResult, ◌==◌}
use Rattle.std.specs.List.{find}
use Rattle.operands.specs.declared.group.Group.{Group}
use Rattle.operands.specs.declared.group.Group.TheVariants.{Bare, Inward, Jump, Outward, Pair, Single, Target}
use Rattle.cisca.specs.declared.operation.Operation.{Operation}
use Rattle.cisca.specs.declared.operation.Operation.TheVariants.{Add, And, Call, Cli, Cmp, Dec, Div, In, Inc, Int, Iret, Je, Jg, Jge, Jl, Jle, Jmp, Jne, Mov, Mul, Neg, Nop, Not, Or, Out, Pop, Push, Ret, Sal, Sar, Sti, Sub, Test, Xor}
use Rattle.cisca.specs.declared.operation.Row as declared
use Rattle.cisca.specs.declared.operation.UnknownOperation.{UnknownOperation}

-- one row of the table
pub record Row : Type 0 where
  pub code : ℕ
  pub name : List ℕ
  pub group : Group

abbrev row : ℕ → List ℕ → Group → Row
row c n g = record { code = c; name = n; group = g }

abbrev pub row_of : Operation → Row
row_of Nop = row 0x00 (codes "NOP") Bare
row_of Sti = row 0x01 (codes "STI") Bare
row_of Cli = row 0x02 (codes "CLI") Bare
row_of Mov = row 0x10 (codes "MOV") Pair
row_of Push = row 0x11 (codes "PUSH") Single
row_of Pop = row 0x12 (codes "POP") Single
row_of Add = row 0x20 (codes "ADD") Pair
row_of Sub = row 0x21 (codes "SUB") Pair
row_of Mul = row 0x22 (codes "MUL") Pair
row_of Div = row 0x23 (codes "DIV") Pair
row_of Inc = row 0x24 (codes "INC") Single
row_of Dec = row 0x25 (codes "DEC") Single
row_of Cmp = row 0x26 (codes "CMP") Pair
row_of Neg = row 0x27 (codes "NEG") Single
row_of And = row 0x30 (codes "AND") Pair
row_of Or = row 0x31 (codes "OR") Pair
row_of Xor = row 0x32 (codes "XOR") Pair
row_of Test = row 0x33 (codes "TEST") Pair
row_of Not = row 0x34 (codes "NOT") Single
row_of Sal = row 0x35 (codes "SAL") Pair
row_of Sar = row 0x36 (codes "SAR") Pair
row_of Jmp = row 0x40 (codes "JMP") Target
row_of Je = row 0x41 (codes "JE") Jump
row_of Jne = row 0x42 (codes "JNE") Jump
row_of Jl = row 0x43 (codes "JL") Jump
row_of Jle = row 0x44 (codes "JLE") Jump
row_of Jg = row 0x45 (codes "JG") Jump
row_of Jge = row 0x46 (codes "JGE") Jump
row_of Call = row 0x47 (codes "CALL") Target
row_of Ret = row 0x48 (codes "RET") Bare
row_of Int = row 0x49 (codes "INT") Target
row_of Iret = row 0x4a (codes "IRET") Bare
row_of In = row 0x50 (codes "IN") Inward
row_of Out = row 0x51 (codes "OUT") Outward

abbrev pub code : Operation → ℕ
code o = (row_of o).code

abbrev pub name : Operation → List ℕ
name o = (row_of o).name

-- filled with blanks on the right, up to four letters
abbrev pub filled : List ℕ → List ℕ
filled n = n ++ replicate (4 - length n) 32

-- the name in four letters
abbrev pub letters : Operation → List ℕ
letters o = filled (name o)

abbrev pub group : Operation → Group
group o = (row_of o).group

abbrev pub operations : List Operation
operations = Nop ∷ Sti ∷ Cli ∷ Mov ∷ Push ∷ Pop ∷ Add ∷ Sub ∷ Mul ∷ Div ∷ Inc ∷ Dec ∷ Cmp ∷ Neg ∷ And ∷ Or ∷ Xor ∷ Test ∷ Not ∷ Sal ∷ Sar ∷ Jmp ∷ Je ∷ Jne ∷ Jl ∷ Jle ∷ Jg ∷ Jge ∷ Call ∷ Ret ∷ Int ∷ Iret ∷ In ∷ Out ∷ []

-- the table
abbrev pub all_rows : List Row
all_rows = map row_of operations

-- what a row of the code says
abbrev pub row_in : declared.Row → Row
row_in r = record { code = r.code; name = r.name.now; group = r.group }

-- which operation a row of the code is of
abbrev pub operation_in : declared.Row → Operation
operation_in r = r.operation

-- the byte in a row of the code
abbrev pub code_in : declared.Row → ℕ
code_in r = r.code

-- the operation of this byte
abbrev pub operation_of : ℕ → Option Operation
operation_of c = find (λ o. code o == c) operations

-- the answer is the operation of this byte, or a refusal of a byte that has none
abbrev pub OperationOf : ℕ → Result Operation UnknownOperation → Type 0
OperationOf c r = MatchResult r (λ o. operation_of c ≡ Some o) (λ e. (operation_of c ≡ None) × (e.0 ≡ c))
