-- The status bits before and after a command. Assumes nothing.
use Rattle.std.proofs.Common.{◌≡◌, ℕ, Bool, false, IfOk, Some, None, Option, refl}
use Rattle.actions.specs.declared.action.Command.{Command}
use Rattle.actions.specs.declared.action.Command.TheVariants as command
use Rattle.actions.specs.declared.action.Place.{Place}
use Rattle.actions.specs.declared.action.Place.TheVariants as place
use Rattle.arithmetic.proofs.Marking.{altered_keeps, combined_keeps, compared_keeps, divided_keeps}
use Rattle.arithmetic.specs.Marks.{Keeps, binary_marks, division_marks, unary_marks}
use Rattle.arithmetic.specs.Results.{altered, combined, divided}
use Rattle.arithmetic.specs.declared.division.Division.{Division}
use Rattle.arithmetic.specs.declared.status.Status.{Status}
use Rattle.execution.specs.Commands.{resulting, sharing}
use Rattle.execution.specs.Contexts.{Context, at_destination, at_source, destination_word, effective, place_word, source_word, turned, writable}
use Rattle.execution.specs.Executions.{commanded}
use Rattle.execution.specs.Jumps.{holds}
use Rattle.processor.specs.Registers.{with_pc, with_word}
use Rattle.execution.specs.Stack.{gone, popped}
use Rattle.processor.specs.declared.state.Processor.{Processor}
use Rattle.quantity.specs.Sums.{displaced}
use Rattle.quantity.specs.declared.Address.{Address}
use Rattle.quantity.specs.declared.Number.{Number}
use Rattle.words.specs.Words.{word_writing}
use Rattle.stepping.proofs.Framing.{branched_same, call_same, kept_same, none_named, on_made, pop_same, pushed_same, return_same, serve_same, then_made}
use Rattle.stepping.specs.Laws.{StatusFollows}

abbrev Unmarked : Context → Context → Type 0
Unmarked w u = u.processor.status ≡ w.processor.status

-- a result's status is kept with its word
resulting_status : (P : Status → Type 0) (d : Place) (r : Number × Status) (w : Context) → P r.1 → IfOk (resulting d r w) (λ u. P u.processor.status)
resulting_status P (place.Register g) r w h = h
resulting_status P (place.Memory m) r w h = then_made (λ u. P u.processor.status) (at_destination (word_writing w.memory (effective w.processor m))) _ (λ _. h)

sharing_status : (P : Status → Type 0) (d : Place) (q : Option Division) (st : Status) (w : Context) → P st → IfOk (sharing d (q, st) w) (λ u. P u.processor.status)
sharing_status P d None st w h = then_made (λ u. P u.processor.status) (writable d w) _ (λ _. h)
sharing_status P d (Some q) st w h =
    on_made (λ u. P u.processor.status) (λ u. P u.processor.status) (resulting d (q.quotient, st) w) _ (resulting_status P d (q.quotient, st) w h) (λ u e. e)

-- a change of a register or of PC leaves the status
abbrev marks_of : Processor → Status
marks_of p = p.status

abbrev none : ℕ → Bool
none i = false

abbrev puts : (p : Processor) (i : ℕ) (n : Number) → none i ≡ false → marks_of (with_word p i n) ≡ marks_of p
puts p i n e = refl

abbrev jumps : (p : Processor) (a : Address) → marks_of (with_pc p a) ≡ marks_of p
jumps p a = refl

pub status_follows : (k : Command) (w : Context) → IfOk (commanded k w) (λ u. StatusFollows k w.processor.status u.processor.status)
status_follows command.Pass w = refl
status_follows (command.Enable e) w = refl
status_follows (command.Move d b) w = then_made (Unmarked w) (source_word b w) _ (λ n. kept_same Status marks_of none puts d n w (none_named d))
status_follows (command.Push d) w = then_made (Unmarked w) (at_source (place_word d w)) _ (λ n. pushed_same Status marks_of none puts n w refl)
status_follows (command.Pop d) w = pop_same Status marks_of none puts d w refl (none_named d)
status_follows (command.Combine k d b) w =
    then_made _ (source_word b w) _ (λ y. then_made _ (destination_word d w) _
    (λ x. resulting_status (Keeps (binary_marks k) w.processor.status) d (combined k x y w.processor.status) w (combined_keeps k x y w.processor.status)))
status_follows (command.Divide d b) w =
    then_made _ (source_word b w) _ (λ y. then_made _ (destination_word d w) _
    (λ x. sharing_status (Keeps division_marks w.processor.status) d (divided x y w.processor.status).0 (divided x y w.processor.status).1 w (divided_keeps x y w.processor.status)))
status_follows (command.Alter k d) w =
    then_made _ (destination_word d w) _ (λ x. resulting_status (Keeps (unary_marks k) w.processor.status) d (altered k x w.processor.status) w (altered_keeps k x w.processor.status))
status_follows (command.Compare k d b) w =
    then_made _ (source_word b w) _ (λ y. then_made _ (destination_word d w) _ (λ x. compared_keeps k x y w.processor.status))
status_follows (command.Jump a) w = refl
status_follows (command.Branch k d) w =
    branched_same Status marks_of none puts (holds k w.processor.status) w.processor (displaced w.processor.pc d) jumps
status_follows (command.Call a) w = call_same Status marks_of none puts a w jumps refl
status_follows command.Return w = return_same Status marks_of none puts w jumps refl
status_follows (command.Interrupt n) w = serve_same Status marks_of none puts n w jumps refl
status_follows command.Resume w =
    then_made (λ u. Unit {0}) (popped w) _ (λ r. then_made (λ u. Unit {0}) (popped (gone r.0 (turned r.1 w))) _ (λ q. tt))
