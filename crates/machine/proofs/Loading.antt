-- A program that is loaded. Assumes nothing.
use Rattle.std.proofs.Common.{◌≡◌, ℕ, true, false, List, [], ◌∷◌, length, is_some, Some, Ok, sym, refl, ap, ◌∙◌, arith}
use mathlib.Core.Path.{fun_ext}
use Rattle.std.proofs.lemmas.Bool.Decides.{nat_tests}
use Rattle.cisca.specs.declared.instruction.Instruction.{Instruction}
use Rattle.loading.specs.Laid.{laid, vacancy}
use Rattle.loading.specs.Layouts.{none_listed, short}
use Rattle.machine.specs.Loads.{admitted, in_range}
use Rattle.machine.specs.Machines.{program_at}
use Rattle.machine.specs.States.{State, present}
use Rattle.memory.specs.Cells.{Cell}
use Rattle.memory.specs.Layers.{sealed}
use Rattle.program.specs.Programs.{program_bytes}
use Rattle.quantity.specs.declared.Address.{Address}

-- what is known of a program that may be loaded
pub record Admitted (a : Address) (is : List Instruction) (s : State) (n : ℕ) : Type 0 where
  pub empty : is_some s.program ≡ false
  pub some : none_listed is ≡ false
  pub brief : short is ≡ true
  pub inside : in_range a (length (program_bytes is)) ≡ true
  pub room : vacancy (present s).memory a (length (program_bytes is)) ≡ Ok tt
  pub long : n ≡ length (program_bytes is)

pub admitted_is : (a : Address) (is : List Instruction) (s : State) (n : ℕ) → admitted a is s ≡ Ok n → Admitted a is s n
admitted_is a is s n e = record {
  empty = grind (arith, nat_tests);
  some = grind (arith, nat_tests);
  brief = grind (arith, nat_tests);
  inside = grind (arith, nat_tests);
  room = grind (arith, nat_tests);
  long = grind (arith, nat_tests);
}

-- nothing is loaded where there is no program
pub none_there : (a : Address) (is : List Instruction) → is_some (program_at a is) ≡ false → is ≡ []
none_there a [] e = refl
none_there a (i ∷ is) e = cc

pub some_there : (a : Address) (is : List Instruction) → none_listed is ≡ false → program_at a is ≡ Some (a, is)
some_there a [] e = cc
some_there a (i ∷ is) e = refl

unsealed : (b l : ℕ) (m : ℕ → Cell) → l ≡ 0 → sealed b l m ≡ m
unsealed b l m e = fun_ext λ q. grind (arith, nat_tests)

-- the memory after a load
pub memory_laid : (m m' : ℕ → Cell) (b l n : ℕ) (a : Address) (xs : List ℕ) → l ≡ 0 → m' ≡ laid m a xs → n ≡ length xs → sealed a.0 n m' ≡ sealed a.0 (length xs) (laid (sealed b l m) a xs)
memory_laid m m' b l n a xs z e f =
    (λ i. sealed a.0 (f i) (e i)) ∙ ap (λ k. sealed a.0 (length xs) (laid k a xs)) (sym (unsealed b l m z))
