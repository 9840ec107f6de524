-- The commands on words: moves, arithmetic and comparisons. Assumes nothing.
use Rattle.std.specs.Prelude.{Some, None, Ok, Option, Result}
use Rattle.actions.specs.declared.action.Place.{Place}
use Rattle.actions.specs.declared.action.Source.{Source}
use Rattle.arithmetic.specs.Results.{altered, combined, compared, divided}
use Rattle.arithmetic.specs.declared.division.Division.{Division}
use Rattle.arithmetic.specs.declared.operation.BinaryOperation.{BinaryOperation}
use Rattle.arithmetic.specs.declared.operation.Comparison.{Comparison}
use Rattle.arithmetic.specs.declared.operation.UnaryOperation.{UnaryOperation}
use Rattle.arithmetic.specs.declared.status.Status.{Status}
use Rattle.processor.specs.declared.fault.Cause.{Cause}
use Rattle.quantity.specs.declared.Number.{Number}
use Rattle.words.specs.Words.{and_then}
use Rattle.execution.specs.Contexts.{Context, destination_word, kept, source_word, turned, writable}
use Rattle.processor.specs.Registers.{with_status, with_word}

-- the context with another status
abbrev pub noted : Status → Context → Context
noted t s = turned (with_status s.processor t) s

-- the word of a result kept in the destination, with its status
abbrev pub resulting : Place → Number × Status → Context → Result Context Cause
resulting d r s = kept d r.0 (noted r.1 s)

-- MOV: the source is read, and kept in the destination
abbrev pub moving : Place → Source → Context → Result Context Cause
moving d b s = and_then (source_word b s) λ n. kept d n s

-- the source is read, then the destination, and the result is kept there
abbrev pub combining : BinaryOperation → Place → Source → Context → Result Context Cause
combining k d b s =
    and_then (source_word b s) λ y.
    and_then (destination_word d s) λ x. resulting d (combined k x y s.processor.status) s

-- CMP and TEST: both are read, and nothing is kept
abbrev pub comparing : Comparison → Place → Source → Context → Result Context Cause
comparing k d b s =
    and_then (source_word b s) λ y.
    and_then (destination_word d s) λ x. Ok (noted (compared k x y s.processor.status) s)

-- the destination is read, and the result is kept there
abbrev pub altering : UnaryOperation → Place → Context → Result Context Cause
altering k d s = and_then (destination_word d s) λ x. resulting d (altered k x s.processor.status) s

-- the remainder goes to R0
abbrev pub remaining : Number → Context → Context
remaining n s = turned (with_word s.processor 0 n) s

-- the quotient is kept, and then the remainder; without a quotient the destination must be writable still
abbrev pub sharing : Place → Option Division × Status → Context → Result Context Cause
sharing d r s = elim r.0 [
  | None ↦ and_then (writable d s) λ _. Ok (noted r.1 s)
  | Some q ↦ and_then (resulting d (q.quotient, r.1) s) λ t. Ok (remaining q.remainder t)
]

-- DIV: the source is read, then the destination, which is divided by it
abbrev pub dividing : Place → Source → Context → Result Context Cause
dividing d b s =
    and_then (source_word b s) λ y.
    and_then (destination_word d s) λ x. sharing d (divided x y s.processor.status) s
