-- What holds after every list of calls on a new machine. Assumes nothing.
use Rattle.std.specs.Prelude.{◌≡◌, ℕ, ◌-◌, ◌^◌, ◌<◌, ◌≤◌, true, List, [], ◌∷◌, ◌++◌, length, is_some, Some, Ok, Err, Option}
use Rattle.cisca.specs.declared.instruction.Instruction.{Instruction}
use Rattle.history.specs.Calls.{Call}
use Rattle.history.specs.Calls as call
use Rattle.history.specs.Runs.{Answer, after, answered, answers, runs, taken}
use Rattle.history.specs.Standing.{Stood, answers_of, calls_of, entries_due, standing}
use Rattle.history.specs.declared.call.Outcome.TheVariants as outcome
use Rattle.history.specs.declared.call.Refusal.TheVariants as refusal
use Rattle.loading.specs.Laid.{ReadsAs}
use Rattle.loading.specs.Layouts.{starting}
use Rattle.machine.specs.Machines.{fresh}
use Rattle.machine.specs.States.{State, moved, present}
use Rattle.machine.specs.Steps.{Execution}
use Rattle.machine.specs.declared.fault.CallFault.TheVariants as fault
use Rattle.machine.specs.declared.machine.step.Stepped.TheVariants.{Executed}
use Rattle.memory.specs.Cells.{Cell}
use Rattle.processor.specs.Views.{View}
use Rattle.quantity.specs.declared.Address.{Address}

-- alike at every address, or at every port number
abbrev pub Alike : {X : Type 0} → (ℕ → X) → (ℕ → X) → Type 0
Alike m n = (k : ℕ) → k < 2 ^ 32 → m k ≡ n k

-- the state of a new machine after the calls bs, the load of a list at an address, and the calls ds
abbrev pub then_runs : Execution → State → List Call → Address → List Instruction → List Call → State
then_runs x s bs a p ds = runs x ds (after x (call.Load a p) (runs x bs s))

-- the load was taken
abbrev pub LoadTaken : Execution → State → List Call → Address → List Instruction → Type 0
LoadTaken x s bs a p = taken (answered x (call.Load a p) (runs x bs s)) ≡ true

-- a step that answers with the start `at` and the record i does what is listed: PC was that start, the record stands in
-- the list of the program at a at just that start, and what the step leaves is the record's execution
pub record DoesListed (x : Execution) (s : State) (a : Address) (is : List Instruction) (at : Address) (i : Instruction) : Type 0 where
  pub start : (present s).processor.pc ≡ at
  pub inside : a.0 ≤ at.0
  pub listed : starting is (at.0 - a.0) ≡ Some i
  pub leaves : (v : View) × (x.executes i (present s) ≡ Ok v) × (after x call.Step s ≡ moved v s)

-- The history of two new machines: one over a store that means m and a bank that means w ran the calls cs, and is then
-- in the state first; `stood` are the calls that stand, each with the answer that the first machine gave. The other, over
-- n and v, ran those alone, and is then in the state second; it answered `again`.
pub record History (x : Execution) (m : ℕ → Cell) (w : ℕ → Option ℕ) (n : ℕ → Cell) (v : ℕ → Option ℕ) (cs : List Call) (first second : State) (stood : List Stood) (again : List Answer) : Type 0 where
  -- what was run
  pub ran : first ≡ runs x cs (fresh m w)
  pub stands : stood ≡ standing x cs (fresh m w) []
  pub reran : second ≡ runs x (calls_of stood) (fresh n v)
  pub said : again ≡ answers x (calls_of stood) (fresh n v)
  -- replays: where stores and banks began alike, both machines hold the same, and the standing calls had the same answers
  pub replays : Alike m n → Alike w v → first ≡ second
  pub answers_again : Alike m n → Alike w v → answers_of stood ≡ again
  -- counts: the journal has an entry for each step, setting and request standing since the last load or release
  pub counts : length first.story.past ≡ entries_due stood
  -- back_refused: a back is refused for want of an entry exactly where there is none of these; without a program it is
  -- refused for that
  pub back_refused : answered x call.Back first ≡ Err (refusal.Call fault.NoEntry) → entries_due stood ≡ 0
  pub back_refuses : entries_due stood ≡ 0 → is_some first.program ≡ true → answered x call.Back first ≡ Err (refusal.Call fault.NoEntry)
  -- reads_as_listed: once a load is taken, just the program's range reads as its list, at every later time
  pub reads_as_listed : (bs ds es : List Call) (a : Address) (p : List Instruction) → cs ≡ bs ++ (call.Load a p ∷ (ds ++ es)) → LoadTaken x (fresh m w) bs a p
      → ReadsAs (present (then_runs x (fresh m w) bs a p ds)).memory a p
  -- does_what_is_listed: a step that is taken then, and is no delivery, does a record of that list
  pub does_what_is_listed : (bs ds es : List Call) (a : Address) (p : List Instruction) → cs ≡ bs ++ (call.Load a p ∷ (ds ++ es)) → LoadTaken x (fresh m w) bs a p
      → (at : Address) (i : Instruction) → answered x call.Step (then_runs x (fresh m w) bs a p ds) ≡ Ok (outcome.Stepped (Executed at i))
      → DoesListed x (then_runs x (fresh m w) bs a p ds) a p at i
