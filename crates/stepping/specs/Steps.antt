-- What a step answers, and what it leaves. Assumes nothing.
use Rattle.std.specs.Prelude.{◌≡◌, IfOk, Ok, Err, Result}
use Rattle.journal.specs.Entries.{undone}
use Rattle.journal.specs.declared.entry.Entry.{Entry}
use Rattle.processor.specs.Views.{View}
use Rattle.processor.specs.declared.fault.StepFault.{StepFault}

-- taken, or the refusal
abbrev pub taken : {X F : Type 0} → Result X F → Result (Unit {0}) F
taken (Ok x) = Ok tt
taken (Err f) = Err f

-- what is there afterwards: a refusal leaves all as it was
abbrev pub settled : {F : Type 0} → Result View F → View → View
settled (Ok w) v = w
settled (Err f) v = v

-- a step of the view v that is to come out as x: its answer r is taken or refused as x says, the view w afterwards is
-- as x says, and the entry that r gives takes the step back
pub record Steps (x : Result View StepFault) (r : Result Entry StepFault) (v w : View) : Type 0 where
  pub answers : taken r ≡ taken x
  pub after : w ≡ settled x v
  pub takes_back : IfOk r (λ e. undone e w ≡ v)
