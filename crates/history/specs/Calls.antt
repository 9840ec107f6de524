-- Calls on a machine, as the laws see them. Assumes nothing.
use Rattle.std.specs.Prelude.{ℕ, List}
use Rattle.cisca.specs.declared.instruction.Instruction.{Instruction}
use Rattle.machine.specs.declared.machine.look.Look as looks
use Rattle.quantity.specs.declared.Address.{Address}
use Rattle.quantity.specs.declared.Number.{Number}
use Rattle.quantity.specs.declared.Port.{Port}

pub data Call : Type 0 where
  Load : Address → List Instruction → Call
  Step : Call
  SetWord : Address → Number → Call
  SetPort : Port → Number → Call
  Request : ℕ → Call
  Release : Call
  Back : Call
  Look : looks.Look → Call

-- what a call does with the journal: step, set word, set port and request add an entry, load and release leave it empty,
-- back strikes an entry, and look leaves it
pub data Kind : Type 0 where
  Journaled : Kind
  Clearing : Kind
  Backward : Kind
  Looking : Kind

abbrev pub kind : Call → Kind
kind (Load a p) = Clearing
kind Step = Journaled
kind (SetWord a n) = Journaled
kind (SetPort p n) = Journaled
kind (Request i) = Journaled
kind Release = Clearing
kind Back = Backward
kind (Look l) = Looking
