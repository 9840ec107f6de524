-- A part of the processor that a command leaves as it was. Assumes nothing.
use Rattle.std.proofs.Common.{◌≡◌, ℕ, ◌*◌, Bool, true, false, cond, ◌||◌, eqb, ◌≢◌, IfOk, Some, None, Ok, Err, Option, Result, refl, ap, ◌∙◌, get_or-set_other}
use Rattle.std.proofs.lemmas.Result.{IfOk-weaker}
use Rattle.std.proofs.lemmas.Bool.{eqb-false}
use Rattle.actions.specs.declared.action.Command.{Command}
use Rattle.actions.specs.declared.action.Command.TheVariants as command
use Rattle.actions.specs.declared.action.Place.{Place}
use Rattle.actions.specs.declared.action.Place.TheVariants as place
use Rattle.arithmetic.specs.Results.{divided, number}
use Rattle.arithmetic.specs.StatusWord.{packed}
use Rattle.arithmetic.specs.declared.division.Division.{Division}
use Rattle.arithmetic.specs.declared.status.Status.{Status}
use Rattle.execution.specs.Commands.{noted, resulting, sharing}
use Rattle.execution.specs.Contexts.{Context, at_destination, at_source, at_stack, at_vector, blamed, destination_word, effective, kept, place_word, source_word, turned, writable}
use Rattle.execution.specs.Executions.{commanded}
use Rattle.execution.specs.Interrupts.{interrupting, serving}
use Rattle.execution.specs.Jumps.{holds}
use Rattle.processor.specs.Registers.{lowered, stack_top, with_pc, with_status, with_word}
use Rattle.execution.specs.Stack.{calling, gone, popped, popping, pushed, returning}
use Rattle.processor.specs.Interrupts.{indexing}
use Rattle.processor.specs.Processors.{held}
use Rattle.processor.specs.declared.fault.Cause.TheVariants as cause
use Rattle.processor.specs.declared.state.Processor.{Processor}
use Rattle.quantity.specs.Sums.{address, displaced}
use Rattle.quantity.specs.declared.Address.{Address}
use Rattle.quantity.specs.declared.Number.{Number}
use Rattle.words.specs.Words.{and_then, word_reading, word_writing}
use Rattle.stepping.specs.Laws.{GoesTo, changes, names}

or_left : (a b : Bool) → (a || b) ≡ false → a ≡ false
or_left true b e = e
or_left false b e = refl

or_right : (a b : Bool) → (a || b) ≡ false → b ≡ false
or_right true b e = absurd (cc)
or_right false b e = e

-- whatever comes of a sequence whose last part always makes P
pub then_made : {X Y E : Type 0} (P : Y → Type 0) (r : Result X E) (f : X → Result Y E) → ((x : X) → IfOk (f x) P) → IfOk (and_then r f) P
then_made P (Ok x) f h = h x
then_made P (Err e) f h = tt

-- after one result, another
pub on_made : {X Y E : Type 0} (P : X → Type 0) (Q : Y → Type 0) (r : Result X E) (f : X → Result Y E) → IfOk r P → ((x : X) → P x → IfOk (f x) Q) → IfOk (and_then r f) Q
on_made P Q (Ok x) f p h = h x p
on_made P Q (Err e) f p h = tt

any_made : {X E : Type 0} (r : Result X E) → IfOk r (λ _. Unit {0})
any_made (Ok x) = tt
any_made (Err e) = tt

-- no jump, call or return
abbrev straight : Command → Bool
straight command.Pass = true
straight (command.Enable e) = true
straight (command.Move d b) = true
straight (command.Push d) = true
straight (command.Pop d) = true
straight (command.Combine k d b) = true
straight (command.Divide d b) = true
straight (command.Alter k d) = true
straight (command.Compare k d b) = true
straight (command.Jump a) = false
straight (command.Branch k d) = false
straight (command.Call a) = false
straight command.Return = false
straight (command.Interrupt n) = false
straight command.Resume = false

-- f is a part of the processor that no register outside the test changes
module _ (X : Type 0) (f : Processor → X) (t : ℕ → Bool) (puts : (p : Processor) (i : ℕ) (n : Number) → t i ≡ false → f (with_word p i n) ≡ f p) where
  abbrev pub Same : Context → Context → Type 0
  Same s u = f u.processor ≡ f s.processor

  pub kept_same : (d : Place) (n : Number) (s : Context) → names t d ≡ false → IfOk (kept d n s) (Same s)
  kept_same (place.Register r) n s e = puts s.processor r.index n e
  kept_same (place.Memory m) n s e = then_made (Same s) (at_destination (word_writing s.memory (effective s.processor m))) _ (λ _. refl)

  pub pushed_same : (n : Number) (s : Context) → t 15 ≡ false → IfOk (pushed n s) (Same s)
  pushed_same n s e = then_made (Same s) (at_stack (word_writing s.memory (stack_top (lowered s.processor)))) _ (λ _. puts s.processor 15 _ e)

  pub popped_same : (s : Context) → t 15 ≡ false → IfOk (popped s) (λ r. f r.1 ≡ f s.processor)
  popped_same s e = then_made (λ r. f r.1 ≡ f s.processor) (at_stack (word_reading s.memory (stack_top s.processor))) _ (λ _. puts s.processor 15 _ e)

  pub pop_same : (d : Place) (s : Context) → t 15 ≡ false → names t d ≡ false → IfOk (popping d s) (Same s)
  pop_same d s e h =
      on_made (λ r. f r.1 ≡ f s.processor) (Same s) (popped s) _ (popped_same s e)
      (λ r g. IfOk-weaker (kept d r.0 (turned r.1 s)) (Same (turned r.1 s)) (Same s) (λ u k. k ∙ g) (kept_same d r.0 (turned r.1 s) h))

  -- PC does not matter
  abbrev pub Jumps : Type 0
  Jumps = (p : Processor) (a : Address) → f (with_pc p a) ≡ f p

  pub branched_same : (b : Bool) (p : Processor) (a : Address) → Jumps → f (cond b (with_pc p a) p) ≡ f p
  branched_same true p a j = j p a
  branched_same false p a j = refl

  pub call_same : (a : Address) (s : Context) → Jumps → t 15 ≡ false → IfOk (calling a s) (Same s)
  call_same a s j e =
      on_made (Same s) (Same s) (pushed (number s.processor.pc.0) s) _ (pushed_same (number s.processor.pc.0) s e) (λ u h. j u.processor a ∙ h)

  pub return_same : (s : Context) → Jumps → t 15 ≡ false → IfOk (returning s) (Same s)
  return_same s j e = on_made (λ r. f r.1 ≡ f s.processor) (Same s) (popped s) _ (popped_same s e) (λ r h. j r.1 _ ∙ h)

  interrupting_same : (i : ℕ) (s : Context) → Jumps → t 15 ≡ false → IfOk (interrupting i s) (Same s)
  interrupting_same i s j e =
      on_made (Same s) (Same s) (pushed (packed s.processor.status) s) _ (pushed_same (packed s.processor.status) s e)
      (λ u h. on_made (Same u) (Same s) (pushed (number u.processor.pc.0) u) _ (pushed_same (number u.processor.pc.0) u e)
      (λ w g. then_made (Same s) (at_vector (word_reading w.memory (address (4 * i)))) _ (λ n. j w.processor _ ∙ g ∙ h)))

  pub serve_same : (n : Number) (s : Context) → Jumps → t 15 ≡ false → IfOk (serving n s) (Same s)
  serve_same n s j e = then_made (Same s) (blamed cause.Index (indexing n.0)) _ (λ i. interrupting_same i.value s j e)

-- the same of a part that no status changes either
module _ (X : Type 0) (f : Processor → X) (t : ℕ → Bool) (puts : (p : Processor) (i : ℕ) (n : Number) → t i ≡ false → f (with_word p i n) ≡ f p) (marks : (p : Processor) (s : Status) → f (with_status p s) ≡ f p) where
  abbrev Alike : Context → Context → Type 0
  Alike = Same X f t puts

  resulting_same : (d : Place) (r : Number × Status) (s : Context) → names t d ≡ false → IfOk (resulting d r s) (Alike s)
  resulting_same d r s e =
      IfOk-weaker (resulting d r s) (Alike (noted r.1 s)) (Alike s) (λ u h. h ∙ marks s.processor r.1) (kept_same X f t puts d r.0 (noted r.1 s) e)

  sharing_same : (d : Place) (q : Option Division) (st : Status) (s : Context) → names t d ≡ false → t 0 ≡ false → IfOk (sharing d (q, st) s) (Alike s)
  sharing_same d None st s e z = then_made (Alike s) (writable d s) _ (λ _. marks s.processor st)
  sharing_same d (Some q) st s e z =
      on_made (Alike s) (Alike s) (resulting d (q.quotient, st) s) _ (resulting_same d (q.quotient, st) s e) (λ u h. puts u.processor 0 q.remainder z ∙ h)

  -- where PC matters, the command is no jump, call or return
  pub left : (k : Command) (s : Context) → (straight k ≡ false → Jumps X f t puts) → changes t k ≡ false → IfOk (commanded k s) (Alike s)
  left command.Pass s j e = refl
  left (command.Enable b) s j e = marks s.processor _
  left (command.Move d b) s j e = then_made (Alike s) (source_word b s) _ (λ n. kept_same X f t puts d n s e)
  left (command.Push d) s j e = then_made (Alike s) (at_source (place_word d s)) _ (λ n. pushed_same X f t puts n s e)
  left (command.Pop d) s j e = pop_same X f t puts d s (or_left (t 15) (names t d) e) (or_right (t 15) (names t d) e)
  left (command.Combine k d b) s j e =
      then_made (Alike s) (source_word b s) _ (λ y. then_made (Alike s) (destination_word d s) _ (λ x. resulting_same d _ s e))
  left (command.Divide d b) s j e =
      then_made (Alike s) (source_word b s) _
      (λ y. then_made (Alike s) (destination_word d s) _
      (λ x. sharing_same d (divided x y s.processor.status).0 (divided x y s.processor.status).1 s (or_left (names t d) (t 0) e) (or_right (names t d) (t 0) e)))
  left (command.Alter k d) s j e = then_made (Alike s) (destination_word d s) _ (λ x. resulting_same d _ s e)
  left (command.Compare k d b) s j e =
      then_made (Alike s) (source_word b s) _ (λ y. then_made (Alike s) (destination_word d s) _ (λ x. marks s.processor _))
  left (command.Jump a) s j e = j refl s.processor a
  left (command.Branch k d) s j e = branched_same X f t puts (holds k s.processor.status) s.processor (displaced s.processor.pc d) (j refl)
  left (command.Call a) s j e = call_same X f t puts a s (j refl) e
  left command.Return s j e = return_same X f t puts s (j refl) e
  left (command.Interrupt n) s j e = serve_same X f t puts n s (j refl) e
  left command.Resume s j e =
      on_made (λ r. f r.1 ≡ f s.processor) (Alike s) (popped s) _ (popped_same X f t puts s e)
      (λ r h. on_made (λ q. f q.1 ≡ f (with_pc r.1 (address r.0.0))) (Alike s) (popped (gone r.0 (turned r.1 s))) _ (popped_same X f t puts (gone r.0 (turned r.1 s)) e)
      (λ q g. marks q.1 _ ∙ g ∙ j refl r.1 _ ∙ h))

pub other_register : (i j : ℕ) (p : Processor) (n : Number) → eqb i j ≡ false → held (with_word p j n) i ≡ held p i
other_register i j p n e = let ne : i ≢ j = eqb-false i j e in rw get_or-set_other

-- a register that the command cannot change is as it was
pub registers_stay : (k : Command) (s : Context) (i : ℕ) → changes (eqb i) k ≡ false → IfOk (commanded k s) (λ u. held u.processor i ≡ held s.processor i)
registers_stay k s i e = left Number (λ p. held p i) (eqb i) (λ p j n h. other_register i j p n h) (λ p u. refl) k s (λ _ p a. refl) e

pub none_named : (d : Place) → names (λ _. false) d ≡ false
none_named (place.Register r) = refl
none_named (place.Memory m) = refl

none_changed : (k : Command) → changes (λ _. false) k ≡ false
none_changed command.Pass = refl
none_changed (command.Enable e) = refl
none_changed (command.Move d b) = none_named d
none_changed (command.Push d) = refl
none_changed (command.Pop d) = none_named d
none_changed (command.Combine k d b) = none_named d
none_changed (command.Divide d b) = ap (λ t. t || false) (none_named d)
none_changed (command.Alter k d) = none_named d
none_changed (command.Compare k d b) = refl
none_changed (command.Jump a) = refl
none_changed (command.Branch k d) = refl
none_changed (command.Call a) = refl
none_changed command.Return = refl
none_changed (command.Interrupt n) = refl
none_changed command.Resume = refl

goes_on : (k : Command) (s : Context) → straight k ≡ true → IfOk (commanded k s) (λ u. u.processor.pc ≡ s.processor.pc)
goes_on k s j = left Address (λ p. p.pc) (λ _. false) (λ p i n e. refl) (λ p u. refl) k s (λ h. absurd (cc (j, h))) (none_changed k)

branch_goes : (b : Bool) (p : Processor) (a : Address) → (b ≡ true → (cond b (with_pc p a) p).pc ≡ a) × (b ≡ false → (cond b (with_pc p a) p).pc ≡ p.pc)
branch_goes true p a = ((λ e. refl), (λ e. absurd (cc)))
branch_goes false p a = ((λ e. absurd (cc)), (λ e. refl))

-- where the command goes on
pub goes_to : (k : Command) (s : Context) → IfOk (commanded k s) (λ u. GoesTo k s.processor.status s.processor.pc u.processor.pc)
goes_to command.Pass s = refl
goes_to (command.Enable e) s = refl
goes_to (command.Move d b) s = goes_on (command.Move d b) s refl
goes_to (command.Push d) s = goes_on (command.Push d) s refl
goes_to (command.Pop d) s = goes_on (command.Pop d) s refl
goes_to (command.Combine k d b) s = goes_on (command.Combine k d b) s refl
goes_to (command.Divide d b) s = goes_on (command.Divide d b) s refl
goes_to (command.Alter k d) s = goes_on (command.Alter k d) s refl
goes_to (command.Compare k d b) s = goes_on (command.Compare k d b) s refl
goes_to (command.Jump a) s = refl
goes_to (command.Branch k d) s = branch_goes (holds k s.processor.status) s.processor (displaced s.processor.pc d)
goes_to (command.Call a) s = then_made (λ u. u.processor.pc ≡ a) (pushed (number s.processor.pc.0) s) _ (λ u. refl)
goes_to command.Return s = then_made (λ u. Unit {0}) (popped s) _ (λ r. tt)
goes_to (command.Interrupt n) s = any_made (commanded (command.Interrupt n) s)
goes_to command.Resume s = any_made (commanded command.Resume s)
