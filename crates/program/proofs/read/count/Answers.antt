use Rattle.std.proofs.Common.{◌≡◌, ℕ, ◌<◌, Some, Ok, sym, ap, ◌∙◌, arith, rules}
use Rattle.cisca.specs.Making.{parts}
use Rattle.codec.proofs.Laws.{next_err, next_ok}
use Rattle.codec.specs.Decoding.{decode}
use Rattle.program.specs.Programs.{counted}
use Rattle.program.proofs.Reading.{before_end, byte_gone, byte_there, counting_all, counting_more, counting_refused, moves_on}
use Rattle.program.proofs.read.count.Given as given
use Rattle.program.proofs.read.count.Goals as goal

-- an instruction is read at a place that has a byte
module _ (g : given.Over) (c : goal.In_ok-read_next g) where
  here : (b : ℕ) × (g.S.Source.shows c.args.source.now c.loop-place.place.offset ≡ Some b)
  here = byte_there (g.S.Source.shows c.args.source.now) c.loop-place.place.offset c.byte_at.result c.is_some.result c.byte_at.ensures.value c.is_some.ensures c.loop-place-test.true

  took : decode (g.S.Source.shows c.args.source.now) c.loop-place.place.offset ≡ Ok (parts c.in_ok-read_next.field-0, c.read_next.new.place.offset)
  took =
      next_ok (g.S.Source.shows c.args.source.now) c.loop-place.place.offset c.read_next.new.place.offset c.in_ok-read_next.field-0
      c.in_ok-read_next.ensures.answers c.in_ok-read_next.ensures.moves

pub returns-in_err-read_next : goal.returns-in_err-read_next
returns-in_err-read_next g c =
    let s = g.S.Source.shows c.args.source.now in
    let p = c.loop-place.place.offset in
    let f = c.in_err-read_next.field-0.0 in
    let b = byte_there s p c.byte_at.result c.is_some.result c.byte_at.ensures.value c.is_some.ensures c.loop-place-test.true in
    let h = ap counted (counting_refused s (g.S.Source.extent c.args.source.now) p c.loop-place.n b.0 (g.S.Source.ends c.args.source.now) c.loop-place.invariant b.1 f (next_err s p f c.in_err-read_next.ensures.answers)) in
    search rules

pub loop-place-smaller : goal.loop-place-smaller
loop-place-smaller g c =
    let s = g.S.Source.shows c.args.source.now in
    let p = c.loop-place.place.offset in
    let b = here g c in
    let m : p < c.read_next.new.place.offset = moves_on s p (parts c.in_ok-read_next.field-0) c.read_next.new.place.offset (g.S.Source.small c.args.source.now) (took g c) in
    let h : p < g.S.Source.extent c.args.source.now = before_end s (g.S.Source.extent c.args.source.now) p b.0 (g.S.Source.ends c.args.source.now) b.1 in
    omega arith

pub loop-place-preserved : goal.loop-place-preserved
loop-place-preserved g c =
    let b = here g c in
    counting_more (g.S.Source.shows c.args.source.now) (g.S.Source.extent c.args.source.now) c.loop-place.place.offset c.loop-place.n b.0 (g.S.Source.ends c.args.source.now) c.loop-place.invariant b.1
    (parts c.in_ok-read_next.field-0) c.read_next.new.place.offset (g.S.Source.small c.args.source.now) (took g c)

pub returns : goal.returns
returns g c =
    let s = g.S.Source.shows c.args.source.now in
    let p = c.loop-place.place.offset in
    let e = byte_gone s p c.byte_at.result c.is_some.result c.byte_at.ensures.value c.is_some.ensures c.loop-place-test.false in
    ap Ok (sym c.loop-place.invariant.count) ∙ sym (ap counted (counting_all s (g.S.Source.extent c.args.source.now) p c.loop-place.n c.loop-place.invariant e))
