-- The laws of commands, lifted to whole instructions. Assumes nothing.
use Rattle.std.proofs.Common.{◌≡◌, ℕ, false, eqb, IfOk, OnOk, Some, None, Ok, Err, Option, Result, sym, refl, subst}
use Rattle.actions.specs.Actions.{action}
use Rattle.actions.specs.declared.action.Action.{Action}
use Rattle.actions.specs.declared.action.Action.TheVariants.{Inner, Input, Output}
use Rattle.cisca.specs.Making.{parts}
use Rattle.cisca.specs.declared.instruction.Instruction.{Instruction}
use Rattle.execution.specs.Contexts.{Context, blamed, context}
use Rattle.execution.specs.Executions.{beside, commanded, executed, next_address, performed_if}
use Rattle.execution.specs.Ports.{giving, port, taking}
use Rattle.processor.specs.Registers.{with_pc}
use Rattle.journal.specs.declared.entry.Entry.{Entry}
use Rattle.ports.specs.Banks.{getting}
use Rattle.processor.specs.Processors.{held}
use Rattle.processor.specs.Views.{View, view}
use Rattle.processor.specs.declared.fault.Cause.{Cause}
use Rattle.processor.specs.declared.fault.Cause.TheVariants as cause
use Rattle.processor.specs.declared.fault.StepFault.{StepFault}
use Rattle.processor.specs.declared.state.Processor.{Processor}
use Rattle.quantity.specs.declared.Address.{Address}
use Rattle.words.specs.Words.{and_then}
use Rattle.stepping.proofs.Framing.{goes_to, other_register, registers_stay, then_made}
use Rattle.stepping.proofs.Marking.{status_follows}
use Rattle.stepping.specs.Laws.{ActionGoes, ActionStatus, RegistersStay, changes}
use Rattle.stepping.specs.Steps.{Steps, settled, taken}

beside_made : (P : Processor → Type 0) (ws : ℕ → Option ℕ) (r : Result Context Cause) → IfOk r (λ u. P u.processor) → IfOk (beside ws r) (λ w. P w.processor)
beside_made P ws (Ok u) h = h
beside_made P ws (Err f) h = tt

blamed_made : {X E F : Type 0} (P : X → Type 0) (f : E → F) (r : Result X E) → IfOk r P → IfOk (blamed f r) P
blamed_made P f (Ok x) h = h
blamed_made P f (Err e) h = tt

-- what holds of every action's outcome holds of the instruction's, which begins with PC at the next one
instruction_made : (P : Option Action → Processor → Processor → Type 0) → ((x : Option Action) (v : View) → IfOk (performed_if x v) (λ w. P x v.processor w.processor)) → (i : Instruction) (v : View)
    → IfOk (executed i v) (λ w. P (action (parts i)) (with_pc v.processor (next_address i v.processor)) w.processor)
instruction_made P h i v =
    let u = view (with_pc v.processor (next_address i v.processor)) v.memory v.ports in
    blamed_made (λ w. P (action (parts i)) u.processor w.processor) _ (performed_if (action (parts i)) u) (h (action (parts i)) u)

-- IN changes its register alone
input_made : (P : Processor → Type 0) (v : View) (r : Result Processor Cause) → IfOk r P → IfOk (and_then r λ p. Ok (view p v.memory v.ports)) (λ w. P w.processor)
input_made P v (Ok p) h = h
input_made P v (Err f) h = tt

-- a fact for each number that passes a test
each_made : {X E : Type 0} (C : ℕ → Type 0) (Q : ℕ → X → Type 0) (r : Result X E) → ((k : ℕ) → C k → IfOk r (Q k)) → IfOk r (λ u. (k : ℕ) → C k → Q k u)
each_made C Q (Ok x) h = h
each_made C Q (Err f) h = tt

registers_left : (x : Option Action) (v : View) → IfOk (performed_if x v) (λ w. RegistersStay x v.processor w.processor)
registers_left None v = λ k e. refl
registers_left (Some (Inner c)) v =
    let s = context v.processor v.memory in
    beside_made (RegistersStay (Some (Inner c)) v.processor) v.ports (commanded c s)
    (each_made (λ k. changes (eqb k) c ≡ false) (λ k u. held u.processor k ≡ held v.processor k) (commanded c s) (λ k. registers_stay c s k))
registers_left (Some (Input r m)) v =
    input_made (RegistersStay (Some (Input r m)) v.processor) v (taking v.processor v.ports r m)
    (then_made (RegistersStay (Some (Input r m)) v.processor) (blamed cause.Port (getting (v.ports (port v.processor m).0) (port v.processor m))) _ (λ n k e. other_register k r.index v.processor n e))
registers_left (Some (Output m r)) v =
    then_made (λ w. RegistersStay (Some (Output m r)) v.processor w.processor) (giving v.processor v.ports m r) _ (λ n k e. refl)

status_kept : (x : Option Action) (v : View) → IfOk (performed_if x v) (λ w. ActionStatus x v.processor w.processor)
status_kept None v = tt
status_kept (Some (Inner c)) v =
    beside_made (ActionStatus (Some (Inner c)) v.processor) v.ports (commanded c (context v.processor v.memory)) (status_follows c (context v.processor v.memory))
status_kept (Some (Input r m)) v =
    input_made (ActionStatus (Some (Input r m)) v.processor) v (taking v.processor v.ports r m)
    (then_made (ActionStatus (Some (Input r m)) v.processor) (blamed cause.Port (getting (v.ports (port v.processor m).0) (port v.processor m))) _ (λ n. refl))
status_kept (Some (Output m r)) v =
    then_made (λ w. ActionStatus (Some (Output m r)) v.processor w.processor) (giving v.processor v.ports m r) _ (λ n. refl)

abbrev Goes : Option Action → Processor → Processor → Type 0
Goes x p q = ActionGoes x p.status p.pc q.pc

goes_there : (x : Option Action) (v : View) → IfOk (performed_if x v) (λ w. Goes x v.processor w.processor)
goes_there None v = tt
goes_there (Some (Inner c)) v =
    beside_made (Goes (Some (Inner c)) v.processor) v.ports (commanded c (context v.processor v.memory)) (goes_to c (context v.processor v.memory))
goes_there (Some (Input r m)) v =
    input_made (Goes (Some (Input r m)) v.processor) v (taking v.processor v.ports r m)
    (then_made (Goes (Some (Input r m)) v.processor) (blamed cause.Port (getting (v.ports (port v.processor m).0) (port v.processor m))) _ (λ n. refl))
goes_there (Some (Output m r)) v =
    then_made (λ w. Goes (Some (Output m r)) v.processor w.processor) (giving v.processor v.ports m r) _ (λ n. refl)

pub registers : (i : Instruction) (v : View) → IfOk (executed i v) (λ w. RegistersStay (action (parts i)) v.processor w.processor)
registers i v = instruction_made RegistersStay registers_left i v

-- the status before is that of the processor with PC at the next instruction
at_status : (x : Option Action) (p : Processor) (a : Address) (r : Result View StepFault) → IfOk r (λ w. ActionStatus x (with_pc p a) w.processor) → IfOk r (λ w. ActionStatus x p w.processor)
at_status None p a r h = h
at_status (Some (Inner c)) p a r h = h
at_status (Some (Input g m)) p a r h = h
at_status (Some (Output m g)) p a r h = h

pub status : (i : Instruction) (v : View) → IfOk (executed i v) (λ w. ActionStatus (action (parts i)) v.processor w.processor)
status i v = at_status (action (parts i)) v.processor (next_address i v.processor) (executed i v) (instruction_made ActionStatus status_kept i v)

pub goes : (i : Instruction) (v : View) → IfOk (executed i v) (λ w. ActionGoes (action (parts i)) v.processor.status (next_address i v.processor) w.processor.pc)
goes i v = instruction_made Goes goes_there i v

-- what holds of the outcome holds of the processor that is left
pub settled_made : {X : Type 0} (P : Processor → Type 0) (r : Result X StepFault) (x : Result View StepFault) (v w : View) → taken r ≡ taken x → w ≡ settled x v → IfOk x (λ u. P u.processor) → IfOk r (λ _. P w.processor)
settled_made P (Err f) x v w a b h = tt
settled_made P (Ok e) (Ok u) v w a b h = subst (λ y. P y.processor) (sym b) h
settled_made P (Ok e) (Err f) v w a b h = absurd (cc)

pub stepped_made : (P : Processor → Type 0) {x : Result View StepFault} {r : Result Entry StepFault} {v w : View} → Steps x r v w → IfOk x (λ u. P u.processor) → OnOk r (P w.processor)
stepped_made P {x} {r} {v} {w} s h = settled_made P r x v w s.answers s.after h
