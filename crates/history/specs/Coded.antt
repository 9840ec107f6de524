-- The calls of the code, as the laws see them. Assumes nothing.
use Rattle.std.specs.Prelude.{List, map, vec_items}
use Rattle.std.specs.Borrow.{Bor}
use Rattle.std.specs.List.{zip}
use Rattle.history.specs.Calls.{Call}
use Rattle.history.specs.Calls as call
use Rattle.history.specs.Runs.{Answer}
use Rattle.history.specs.Standing.{Stood}
use Rattle.history.specs.declared.call.Call as code
use Rattle.history.specs.declared.call.Call.TheVariants as the

abbrev pub call_of : code.Call → Call
call_of (the.Load a p) = call.Load a (vec_items p)
call_of the.Step = call.Step
call_of (the.SetWord a n) = call.SetWord a n
call_of (the.SetPort p n) = call.SetPort p n
call_of (the.Request i) = call.Request i
call_of the.Release = call.Release
call_of the.Back = call.Back
call_of (the.Look l) = call.Look l

abbrev pub calls_in : List (Bor code.Call) → List Call
calls_in cs = map (λ (c : Bor code.Call). call_of c.now) cs

-- calls and answers, pair by pair
abbrev pub paired : List Call → List Answer → List Stood
paired cs rs = zip cs rs
