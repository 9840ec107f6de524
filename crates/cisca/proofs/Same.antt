-- Records with facts in them are equal where their fields are. Assumes nothing.
use mathlib.Core.HLevel.{is_prop→PathP}
use Rattle.std.proofs.Common.{◌≡◌, true, T, sym, refl, subst, rules}
use lib.Dec.{T_prop}
use Rattle.cisca.specs.declared.instruction.Instruction.{Instruction}
use Rattle.cisca.specs.Legality.{pairing}
use Rattle.cisca.specs.Making.{Parts, parts}
use Rattle.operands.specs.Widths.{all_within}

-- a record is known by its parts
pub same_instruction : (x y : Instruction) → parts x ≡ parts y → x ≡ y
same_instruction x y e = λ i. record {
  operation = (e i).operation;
  first = (e i).first;
  second = (e i).second;
  legal = is_prop→PathP (λ i. T (pairing (e i).operation (e i).first (e i).second)) (λ i. T_prop (pairing (e i).operation (e i).first (e i).second)) x.legal y.legal i;
  narrow = is_prop→PathP (λ i. T (all_within (e i).first)) (λ i. T_prop (all_within (e i).first)) x.narrow y.narrow i;
  slim = is_prop→PathP (λ i. T (all_within (e i).second)) (λ i. T_prop (all_within (e i).second)) x.slim y.slim i;
}

-- parts that go together, and whose quantities fit
abbrev pub Legal : Parts → Type 0
Legal x = (pairing x.operation x.first x.second ≡ true) × T (all_within x.first) × T (all_within x.second)

-- they are the parts of a record
pub record_of : (x : Parts) → Legal x → (i : Instruction) × (parts i ≡ x)
record_of x l = (record { operation = x.operation; first = x.first; second = x.second; legal = subst T (sym l.0) tt; narrow = l.1; slim = l.2 }, refl)

-- and a record's parts are such
pub record_legal : (i : Instruction) → Legal (parts i)
record_legal i = search rules
