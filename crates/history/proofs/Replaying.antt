-- The standing calls, run again, by induction on the calls. Assumes nothing.
use Rattle.std.proofs.Common.{◌≡◌, ℕ, Bool, true, false, List, [], ◌∷◌, ◌++◌, reverse, length, is_some, Ok, Err, Result, sym, refl, ap, ◌∙◌, subst, add-one, arith}
use mathlib.Core.List.{reverse-cons}
use Rattle.std.proofs.lemmas.Bool.{cond-false, cond-true}
use Rattle.std.proofs.lemmas.List.{map-append}
use Rattle.execution.specs.Contexts.{blamed}
use Rattle.history.specs.Calls.{Backward, Call, Clearing, Journaled, Kind, Looking, kind}
use Rattle.history.specs.Calls as call
use Rattle.history.specs.Runs.{after, answered, answers, runs, said, stepped, taken}
use Rattle.history.specs.Standing.{Stood, answers_of, calls_of, counted, counted_as, entries_due, joined, kept, last_kept, standing, struck}
use Rattle.history.specs.declared.call.Outcome.TheVariants as outcome
use Rattle.history.specs.declared.call.Refusal.TheVariants as refusal
use Rattle.journal.specs.Stories.{back_answer}
use Rattle.machine.specs.Calls.{back_made, back_said, port_set, request_said, requested, set_port_said, set_word_said, word_set}
use Rattle.machine.specs.Loads.{admitted, installed}
use Rattle.machine.specs.States.{Said, State, granted, loaded, moved, present, upon}
use Rattle.machine.specs.Steps.{Execution, answer_of, left_by}
use Rattle.machine.specs.Steps as steps
use Rattle.machine.specs.declared.fault.CallFault.{CallFault}
use Rattle.machine.specs.declared.fault.CallFault.TheVariants as fault
use Rattle.processor.specs.Views.{View}
use Rattle.words.specs.Words.{and_then}

-- taken or not, a call by its answer
done : (r : Said) (t s : State) → taken (said r) ≡ true → upon r t s ≡ t
done (Ok u) t s e = refl
done (Err f) t s e = cc

undone : (r : Said) (t s : State) → taken (said r) ≡ false → upon r t s ≡ s
undone (Ok u) t s e = cc
undone (Err f) t s e = refl

load_done : (r : Result ℕ CallFault) (t s : State) → taken (said (and_then r λ _. Ok tt)) ≡ true → upon r t s ≡ t
load_done (Ok n) t s e = refl
load_done (Err f) t s e = cc

load_undone : (r : Result ℕ CallFault) (t s : State) → taken (said (and_then r λ _. Ok tt)) ≡ false → upon r t s ≡ s
load_undone (Ok n) t s e = cc
load_undone (Err f) t s e = refl

step_done : (o : steps.Outcome) (s : State) → taken (stepped (answer_of o)) ≡ true → (v : View) × (left_by o s ≡ moved v s)
step_done (Ok p) s e = (p.1, refl)
step_done (Err f) s e = absurd cc

step_undone : (o : steps.Outcome) (s : State) → taken (stepped (answer_of o)) ≡ false → left_by o s ≡ s
step_undone (Ok p) s e = cc
step_undone (Err f) s e = refl

-- a refused call changes nothing
refused_keeps : (x : Execution) (c : Call) (s : State) → taken (answered x c s) ≡ false → after x c s ≡ s
refused_keeps x (call.Load a p) s e = load_undone (admitted a p s) _ s e
refused_keeps x call.Step s e = step_undone (steps.outcome x s) s e
refused_keeps x (call.SetWord a n) s e = undone (set_word_said a s) _ s e
refused_keeps x (call.SetPort q n) s e = undone (set_port_said q s) _ s e
refused_keeps x (call.Request i) s e = undone (request_said i s) _ s e
refused_keeps x call.Release s e = undone (loaded s) _ s e
refused_keeps x call.Back s e = undone (back_said s) _ s e
refused_keeps x (call.Look l) s e = refl

-- a journaled call moves to a view, and a clearing one leaves no past
moves_on : (x : Execution) (c : Call) (s : State) → kind c ≡ Journaled → taken (answered x c s) ≡ true → (v : View) × (after x c s ≡ moved v s)
moves_on x call.Step s k e = step_done (steps.outcome x s) s e
moves_on x (call.SetWord a n) s k e = (word_set a n (present s), done (set_word_said a s) _ s e)
moves_on x (call.SetPort q n) s k e = (port_set q n (present s), done (set_port_said q s) _ s e)
moves_on x (call.Request i) s k e = (requested i (present s), done (request_said i s) _ s e)
moves_on x _ s k e = absurd cc

clears : (x : Execution) (c : Call) (s : State) → kind c ≡ Clearing → taken (answered x c s) ≡ true → (after x c s).story.past ≡ []
clears x (call.Load a p) s k e = ap (λ t. t.story.past) (load_done (admitted a p s) (installed a p s) s e)
clears x call.Release s k e = ap (λ t. t.story.past) (done (loaded s) _ s e)
clears x _ s k e = cc

-- the only backward call, and what a looking one leaves
is_back : (c : Call) → kind c ≡ Backward → c ≡ call.Back
is_back call.Back k = refl
is_back _ k = cc

looks : (x : Execution) (c : Call) (s : State) → kind c ≡ Looking → after x c s ≡ s
looks x (call.Look l) s k = refl
looks x _ s k = cc

-- a back leads to the state before
undoes : (v : View) (s : State) → taken (said (back_said (moved v s))) ≡ true → back_made (moved v s) ≡ s
undoes v s t = done (back_said (moved v s)) _ (moved v s) t

never : (r : Said) (f : CallFault) → taken (said (and_then r λ _. Err f)) ≡ true → ⊥
never (Ok u) f e = cc
never (Err g) f e = cc

-- no back is taken where there is no past
no_past : (s : State) → s.story.past ≡ [] → taken (said (back_said s)) ≡ true → ⊥
no_past s z e = never (loaded s) fault.NoEntry (sym (ap (λ l. taken (said (and_then (loaded s) λ _. blamed (λ _. fault.NoEntry) (back_answer l)))) z) ∙ e)

-- all but the last
struck_last : (p : Stood) (l : List Stood) → kind p.0 ≡ Journaled → struck (l ++ (p ∷ [])) ≡ l
struck_last p [] k = ap (λ k. last_kept k p) k
struck_last p (q ∷ []) k = ap (λ l. q ∷ l) (struck_last p [] k)
struck_last p (q ∷ r ∷ l) k = ap (λ l. q ∷ l) (struck_last p (r ∷ l) k)

module _ (x : Execution) (s : State) where
  -- the state after the standing calls, the latest first
  abbrev built : List Stood → State
  built [] = s
  built (p ∷ r) = after x p.0 (built r)

abbrev May : Kind → Type 0
May Journaled = Unit {0}
May Clearing = Unit {0}
May Backward = ⊥
May Looking = ⊥

-- each was taken at the state before it, with that answer
abbrev Good : Execution → State → List Stood → Type 0
Good x s [] = Unit {0}
Good x s (p ∷ r) = May (kind p.0) × (answered x p.0 (built x s r) ≡ p.1) × (taken p.1 ≡ true) × Good x s r

-- one that stands is undone by a back
Undone : Execution → Call → State → Type 0
Undone x c s = (kind c ≡ Journaled) × (back_made (after x c s) ≡ s)

back_one : (x : Execution) (c : Call) (s : State) (k : Kind) → kind c ≡ k → May k → taken (answered x c s) ≡ true → taken (said (back_said (after x c s))) ≡ true → Undone x c s
unfolding Undone
back_one x c s Journaled k m e t =
    let f = moves_on x c s k e in
    (k, ap back_made f.1 ∙ undoes f.0 s (sym (ap (λ u. taken (said (back_said u))) f.1) ∙ t))
back_one x c s Clearing k m e t = absurd (no_past (after x c s) (clears x c s k e) t)
back_one x c s Backward k m e t = absurd m
back_one x c s Looking k m e t = absurd m

-- what one call does to the standing calls
Next : Execution → State → List Stood → Call → Type 0
Next x s r c = (r' : List Stood) × (kept c (answered x c (built x s r)) (reverse r) ≡ reverse r') × (after x c (built x s r) ≡ built x s r') × Good x s r'

module _ (x : Execution) (s : State) (empty : s.story.past ≡ []) where
  joins : (r : List Stood) (c : Call) → Good x s r → May (kind c) → taken (answered x c (built x s r)) ≡ true
      → joined (kind c) (c, answered x c (built x s r)) (reverse r) ≡ reverse r ++ ((c, answered x c (built x s r)) ∷ []) → Next x s r c
  unfolding Next
  joins r c g m e k = (
    (c, answered x c (built x s r)) ∷ r,
    cond-true _ _ _ e ∙ k ∙ sym (reverse-cons _ r),
    refl,
    (m, refl, e, g),
  )

  stays : (r : List Stood) (c : Call) → Good x s r → taken (answered x c (built x s r)) ≡ false → Next x s r c
  unfolding Next
  stays r c g e = (r, cond-false _ _ _ e, refused_keeps x c (built x s r) e, g)

  goes_back : (r : List Stood) → Good x s r → taken (answered x call.Back (built x s r)) ≡ true → Next x s r call.Back
  unfolding Next Undone
  goes_back [] g e = absurd (no_past s empty e)
  goes_back (p ∷ r) g e =
      let u = back_one x p.0 (built x s r) (kind p.0) refl g.0 (ap taken g.1 ∙ g.2) e in (
        r,
        cond-true _ _ _ e ∙ ap struck (reverse-cons p r) ∙ struck_last p (reverse r) u.0,
        u.1,
        g.3,
      )

  next_taken : (r : List Stood) (c : Call) (k : Kind) → kind c ≡ k → Good x s r → taken (answered x c (built x s r)) ≡ true → Next x s r c
  unfolding Next
  next_taken r c Journaled k g e = joins r c g (subst May (sym k) tt) e (ap (λ k. joined k (c, answered x c (built x s r)) (reverse r)) k)
  next_taken r c Clearing k g e = joins r c g (subst May (sym k) tt) e (ap (λ k. joined k (c, answered x c (built x s r)) (reverse r)) k)
  next_taken r c Backward k g e =
      let b = is_back c k in
      subst (Next x s r) (sym b) (goes_back r g (ap (λ c. taken (answered x c (built x s r))) (sym b) ∙ e))
  next_taken r c Looking k g e = (
    r,
    cond-true _ _ _ e ∙ ap (λ k. joined k (c, answered x c (built x s r)) (reverse r)) k,
    looks x c (built x s r) k,
    g,
  )

  next_by : (r : List Stood) (c : Call) (t : Bool) → taken (answered x c (built x s r)) ≡ t → Good x s r → Next x s r c
  next_by r c true e g = next_taken r c (kind c) refl g e
  next_by r c false e g = stays r c g e

-- what a whole list does
Ends : Execution → State → List Stood → List Call → Type 0
Ends x s r cs = (r' : List Stood) × (standing x cs (built x s r) (reverse r) ≡ reverse r') × (runs x cs (built x s r) ≡ built x s r') × Good x s r'

ends : (x : Execution) (s : State) → s.story.past ≡ [] → (cs : List Call) (r : List Stood) → Good x s r → Ends x s r cs
unfolding Ends Next
ends x s z [] r g = (r, refl, refl, g)
ends x s z (c ∷ cs) r g =
    let n = next_by x s z r c (taken (answered x c (built x s r))) refl g in
    let m = ends x s z cs n.0 n.3 in (
      m.0,
      ap (λ l. standing x cs (after x c (built x s r)) l) n.1 ∙ ap (λ t. standing x cs t (reverse n.0)) n.2 ∙ m.1,
      ap (runs x cs) n.2 ∙ m.2,
      m.3,
    )

-- running the standing calls in order
runs_append : (x : Execution) (xs ys : List Call) (s : State) → runs x (xs ++ ys) s ≡ runs x ys (runs x xs s)
runs_append x [] ys s = refl
runs_append x (c ∷ xs) ys s = runs_append x xs ys (after x c s)

answers_append : (x : Execution) (xs ys : List Call) (s : State) → answers x (xs ++ ys) s ≡ answers x xs s ++ answers x ys (runs x xs s)
answers_append x [] ys s = refl
answers_append x (c ∷ xs) ys s = ap (λ l. answered x c s ∷ l) (answers_append x xs ys (after x c s))

counted_append : (n : ℕ) (xs ys : List Call) → counted n (xs ++ ys) ≡ counted (counted n xs) ys
counted_append n [] ys = refl
counted_append n (c ∷ xs) ys = counted_append (counted_as (kind c) n) xs ys

split_calls : (p : Stood) (r : List Stood) → calls_of (reverse (p ∷ r)) ≡ calls_of (reverse r) ++ (p.0 ∷ [])
split_calls p r = ap calls_of (reverse-cons p r) ∙ map-append (λ (q : Stood). q.0) (reverse r) (p ∷ [])

count_one : (x : Execution) (c : Call) (s : State) (k : Kind) → kind c ≡ k → May k → taken (answered x c s) ≡ true → length (after x c s).story.past ≡ counted_as k (length s.story.past)
count_one x c s Journaled k m e = ap (λ t. length t.story.past) (moves_on x c s k e).1 ∙ sym (add-one _)
count_one x c s Clearing k m e = ap length (clears x c s k e)
count_one x c s Backward k m e = absurd m
count_one x c s Looking k m e = absurd m

module _ (x : Execution) (s : State) where
  runs_built : (r : List Stood) → runs x (calls_of (reverse r)) s ≡ built x s r
  runs_built [] = refl
  runs_built (p ∷ r) = ap (λ l. runs x l s) (split_calls p r) ∙ runs_append x (calls_of (reverse r)) (p.0 ∷ []) s ∙ ap (after x p.0) (runs_built r)

  answers_built : (r : List Stood) → Good x s r → answers x (calls_of (reverse r)) s ≡ answers_of (reverse r)
  answers_built [] g = refl
  answers_built (p ∷ r) g =
      ap (λ l. answers x l s) (split_calls p r)
      ∙ answers_append x (calls_of (reverse r)) (p.0 ∷ []) s
      ∙ ap (λ l. l ++ (answered x p.0 (runs x (calls_of (reverse r)) s) ∷ [])) (answers_built r g.3)
      ∙ ap (λ t. answers_of (reverse r) ++ (answered x p.0 t ∷ [])) (runs_built r)
      ∙ ap (λ a. answers_of (reverse r) ++ (a ∷ [])) g.1
      ∙ sym (ap answers_of (reverse-cons p r) ∙ map-append (λ (q : Stood). q.1) (reverse r) (p ∷ []))

  count_built : (r : List Stood) → s.story.past ≡ [] → Good x s r → length (built x s r).story.past ≡ counted 0 (calls_of (reverse r))
  count_built [] z g = ap length z
  count_built (p ∷ r) z g =
      count_one x p.0 (built x s r) (kind p.0) refl g.0 (ap taken g.1 ∙ g.2)
      ∙ ap (λ n. counted n (p.0 ∷ [])) (count_built r z g.3)
      ∙ sym (ap (counted 0) (split_calls p r) ∙ counted_append 0 (calls_of (reverse r)) (p.0 ∷ []))

refused_zero : (r : Said) (l : List View) → said (and_then r λ _. blamed (λ _. fault.NoEntry) (back_answer l)) ≡ Err (refusal.Call fault.NoEntry) → r ≡ Ok tt → length l ≡ 0
refused_zero r [] e k = refl
refused_zero r (v ∷ l) e k =
    let f : Ok outcome.Done ≡ Err (refusal.Call fault.NoEntry) = sym (ap (λ r. said (and_then r λ _. Ok tt)) k) ∙ e in cc

abbrev gate : Bool → Said
gate t = granted t fault.NoProgram

-- a machine that is not loaded gives another refusal
loaded_if : (t : Bool) (l : List View) → said (and_then (gate t) λ _. blamed (λ _. fault.NoEntry) (back_answer l)) ≡ Err (refusal.Call fault.NoEntry) → length l ≡ 0
loaded_if true l e = refused_zero (Ok tt) l e refl
loaded_if false l e = cc

zero_refused : (t : Bool) (l : List View) → t ≡ true → length l ≡ 0 → said (and_then (gate t) λ _. blamed (λ _. fault.NoEntry) (back_answer l)) ≡ Err (refusal.Call fault.NoEntry)
zero_refused true [] k e = refl
zero_refused true (v ∷ l) k e = absurd (omega arith)
zero_refused false l k e = cc

-- what the standing calls of a list give when they are run again
pub record Replays (x : Execution) (s : State) (cs : List Call) : Type 0 where
  pub same : runs x (calls_of (standing x cs s [])) s ≡ runs x cs s
  pub again : answers x (calls_of (standing x cs s [])) s ≡ answers_of (standing x cs s [])
  pub count : length (runs x cs s).story.past ≡ entries_due (standing x cs s [])
  pub refused : answered x call.Back (runs x cs s) ≡ Err (refusal.Call fault.NoEntry) → entries_due (standing x cs s []) ≡ 0
  pub refuses : entries_due (standing x cs s []) ≡ 0 → is_some (runs x cs s).program ≡ true → answered x call.Back (runs x cs s) ≡ Err (refusal.Call fault.NoEntry)

-- every list of calls, from every state with an empty journal, over every execution
pub replays : (x : Execution) (s : State) → s.story.past ≡ [] → (cs : List Call) → Replays x s cs
unfolding Ends
replays x s z cs =
    let m = ends x s z cs [] tt in
    let n : length (runs x cs s).story.past ≡ entries_due (standing x cs s []) =
    ap (λ t. length t.story.past) m.2 ∙ count_built x s m.0 z m.3 ∙ sym (ap (λ l. counted 0 (calls_of l)) m.1) in
    record {
      same = ap (λ l. runs x (calls_of l) s) m.1 ∙ runs_built x s m.0 ∙ sym m.2;
      again = ap (λ l. answers x (calls_of l) s) m.1 ∙ answers_built x s m.0 m.3 ∙ sym (ap answers_of m.1);
      count = n;
      refused = λ e. sym n ∙ loaded_if (is_some (runs x cs s).program) (runs x cs s).story.past e;
      refuses = λ e k. zero_refused (is_some (runs x cs s).program) (runs x cs s).story.past k (n ∙ e);
    }
