-- What each call answers and leaves, and lists of calls. Assumes nothing.
use Rattle.std.specs.Prelude.{Bool, List, [], ◌∷◌, is_ok, Ok, Err, Result}
use Rattle.history.specs.Calls.{Call}
use Rattle.history.specs.Calls as call
use Rattle.history.specs.declared.call.Outcome.{Outcome}
use Rattle.history.specs.declared.call.Outcome.TheVariants as outcome
use Rattle.history.specs.declared.call.Refusal.{Refusal}
use Rattle.history.specs.declared.call.Refusal.TheVariants as refusal
use Rattle.machine.specs.Calls.{back_made, back_said, look_said, release_made, request_made, request_said, set_port_made, set_port_said, set_word_made, set_word_said}
use Rattle.machine.specs.Loads.{load_made, load_said}
use Rattle.machine.specs.States.{Said, State, loaded}
use Rattle.machine.specs.Steps.{Execution, step_made, step_said}
use Rattle.machine.specs.declared.fault.CallFault.{CallFault}
use Rattle.machine.specs.declared.machine.look.Shown.{Shown}
use Rattle.machine.specs.declared.machine.step.Stepped.{Stepped}
use Rattle.processor.specs.declared.fault.StepFault.{StepFault}

-- what a call is answered
abbrev pub Answer : Type 0
Answer = Result Outcome Refusal

-- the answer of a call, told of what the machine said
abbrev pub told : {X F : Type 0} → (X → Outcome) → (F → Refusal) → Result X F → Answer
told done by (Ok x) = Ok (done x)
told done by (Err f) = Err (by f)

abbrev pub said : Said → Answer
said r = told (λ _. outcome.Done) refusal.Call r

abbrev pub stepped : Result Stepped StepFault → Answer
stepped r = told outcome.Stepped refusal.Step r

abbrev pub showed : Result Shown CallFault → Answer
showed r = told outcome.Shown refusal.Call r

-- the answer to a call on a machine in this state
abbrev pub answered : Execution → Call → State → Answer
answered x (call.Load a p) s = said (load_said a p s)
answered x call.Step s = stepped (step_said x s)
answered x (call.SetWord a n) s = said (set_word_said a s)
answered x (call.SetPort p n) s = said (set_port_said p s)
answered x (call.Request i) s = said (request_said i s)
answered x call.Release s = said (loaded s)
answered x call.Back s = said (back_said s)
answered x (call.Look l) s = showed (look_said l s)

-- the state after it
abbrev pub after : Execution → Call → State → State
after x (call.Load a p) s = load_made a p s
after x call.Step s = step_made x s
after x (call.SetWord a n) s = set_word_made a n s
after x (call.SetPort p n) s = set_port_made p n s
after x (call.Request i) s = request_made i s
after x call.Release s = release_made s
after x call.Back s = back_made s
after x (call.Look l) s = s

-- the state after a list of calls
abbrev pub runs : Execution → List Call → State → State
runs x [] s = s
runs x (c ∷ cs) s = runs x cs (after x c s)

-- their answers
abbrev pub answers : Execution → List Call → State → List Answer
answers x [] s = []
answers x (c ∷ cs) s = answered x c s ∷ answers x cs (after x c s)

-- was the call taken?
abbrev pub taken : Answer → Bool
taken r = is_ok r
