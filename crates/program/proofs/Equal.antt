-- `==` of records decides whether they are the same. Assumes nothing.
use Rattle.std.proofs.Common.{◌≡◌, Some, None, Option, Decides, ap, rules, arith}
use Rattle.std.specs.Prelude.{◌==◌}
use Rattle.std.specs.Option.{option_eq}
use Rattle.std.proofs.lemmas.Bool.Decides.{Decides-and, Decides-eqb, Decides-like}
use Rattle.cisca.proofs.Codes.{same_by_derive}
use Rattle.cisca.proofs.Same.{same_instruction}
use Rattle.cisca.specs.declared.instruction.Instruction.{Instruction}
use Rattle.cisca.specs.contracts.instruction.InstructionPartialEq.TheImpl as instruction
use Rattle.cisca.specs.Making.{assembled}
use Rattle.operands.proofs.Same.{same_register}
use Rattle.operands.specs.declared.operand.Operand.{Operand}
use Rattle.operands.specs.declared.operand.Operand.TheVariants.{Indexed, Indirect, Register, Relative}
use Rattle.operands.specs.declared.register.Register as reg
use Rattle.operands.specs.contracts.operand.OperandPartialEq.TheImpl as operand

same_index : (r s : reg.Register) → Decides (r.index == s.index) (r ≡ s)
same_index r s = Decides-like _ (same_register r s) (λ e. ap (λ (t : reg.Register). t.index) e) (Decides-eqb r.index s.index)

same_operand : (x y : Operand) → Decides (operand.ghosts.eq x y) (x ≡ y)
same_operand (Register r) (Register s) = let h = same_index r s in grind arith
same_operand (Indirect r) (Indirect s) = let h = same_index r s in grind arith
same_operand (Relative r d) (Relative s e) = let h = same_index r s in grind arith
same_operand (Indexed a r) (Indexed b s) = let h = same_index r s in grind arith
same_operand x y = search rules

same_if : (a b : Option Operand) → Decides (option_eq operand.ghosts.eq a b) (a ≡ b)
same_if None None = search rules
same_if None (Some b) = search rules
same_if (Some a) None = search rules
same_if (Some a) (Some b) = Decides-like _ (ap Some) (λ e. cc) (same_operand a b)

pub same_record : (x y : Instruction) → Decides (instruction.ghosts.eq x y) (x ≡ y)
same_record x y =
    Decides-like _ (λ e. same_instruction x y (λ i. assembled (e.0 i) (e.1.0 i) (e.1.1 i)))
    (λ e. (ap (λ (i : Instruction). i.operation) e, (ap (λ (i : Instruction). i.first) e, ap (λ (i : Instruction). i.second) e)))
    (Decides-and _ _ (same_by_derive x.operation y.operation) (Decides-and _ _ (same_if x.first y.first) (same_if x.second y.second)))
