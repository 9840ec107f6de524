-- The standing calls: those of a list whose doing still shows. They are told from the calls and whether each was taken,
-- and from nothing else. Assumes nothing.
use Rattle.std.specs.Prelude.{ℕ, ◌+◌, cond, List, [], ◌∷◌, ◌++◌, map}
use Rattle.history.specs.Calls.{Backward, Call, Clearing, Journaled, Kind, Looking, kind}
use Rattle.history.specs.Runs.{Answer, after, answered, taken}
use Rattle.machine.specs.States.{State}
use Rattle.machine.specs.Steps.{Execution}

-- a call with the answer that it had
abbrev pub Stood : Type 0
Stood = Call × Answer

abbrev pub last_kept : Kind → Stood → List Stood
last_kept Journaled p = []
last_kept Clearing p = p ∷ []
last_kept Backward p = p ∷ []
last_kept Looking p = p ∷ []

-- all but the last, if that is a step, a setting or a request
abbrev pub struck : List Stood → List Stood
struck [] = []
struck (p ∷ []) = last_kept (kind p.0) p
struck (p ∷ q ∷ l) = p ∷ struck (q ∷ l)

-- a call taken: a load, step, setting, request or release joins the end, a back strikes, and a look leaves all
abbrev pub joined : Kind → Stood → List Stood → List Stood
joined Journaled p l = l ++ (p ∷ [])
joined Clearing p l = l ++ (p ∷ [])
joined Backward p l = struck l
joined Looking p l = l

-- the standing calls after one call more, which was answered r
abbrev pub kept : Call → Answer → List Stood → List Stood
kept c r l = cond (taken r) (joined (kind c) (c, r) l) l

-- those after the calls cs on a machine in state s, where l stood before
abbrev pub standing : Execution → List Call → State → List Stood → List Stood
standing x [] s l = l
standing x (c ∷ cs) s l = standing x cs (after x c s) (kept c (answered x c s) l)

abbrev pub calls_of : List Stood → List Call
calls_of l = map (λ (p : Stood). p.0) l

abbrev pub answers_of : List Stood → List Answer
answers_of l = map (λ (p : Stood). p.1) l

abbrev pub counted_as : Kind → ℕ → ℕ
counted_as Journaled n = n + 1
counted_as Clearing n = 0
counted_as Backward n = n
counted_as Looking n = n

-- how many steps, settings and requests stand since the last load or release, n of them before the list
abbrev pub counted : ℕ → List Call → ℕ
counted n [] = n
counted n (c ∷ cs) = counted (counted_as (kind c) n) cs

-- since the last load or release in the list of standing calls
abbrev pub entries_due : List Stood → ℕ
entries_due l = counted 0 (calls_of l)
