use Rattle.program.proofs.Filling.{filled_holds, filling_more, filling_none, filling_taken}
use Rattle.program.proofs.Laws.{program_reads_back, program_stops, program_writes_back}
use Rattle.program.specs.Laws.{ProgramReadsBack, ProgramStopsAtFirstFault, ProgramWritesBack}
use Rattle.program.proofs.read.read_program.Given as given
use Rattle.program.proofs.read.read_program.Goals as goal

pub loop-slot-init : goal.loop-slot-init
loop-slot-init g c = filling_none _ _ c.in_ok-n.n _ c.in_ok-n.ensures

pub unwrap-requires : goal.unwrap-requires
unwrap-requires g c =
    filling_taken (g.S.Source.shows c.args.source.now) (g.S.Source.extent c.args.source.now) c.args.out.now c.loop-slot.slot-items c.loop-slot.place.offset c.loop-slot.slot-index c.in_ok-n.n
    c.loop-slot.invariant c.if-out-n.false c.loop-slot.auto.slot-items c.loop-slot-test.true c.read_next.result c.read_next.ensures.answers

pub loop-slot-preserved : goal.loop-slot-preserved
loop-slot-preserved g c =
    filling_more (g.S.Source.shows c.args.source.now) (g.S.Source.extent c.args.source.now) c.args.out.now c.loop-slot.slot-items c.loop-slot.place.offset c.loop-slot.slot-index c.in_ok-n.n
    c.loop-slot.invariant c.if-out-n.false c.loop-slot.auto.slot-items c.loop-slot-test.true c.read_next.result c.unwrap.result c.read_next.new.place.offset
    c.read_next.ensures.answers c.read_next.ensures.moves c.unwrap.ensures

pub returns-clause-after : goal.returns-clause-after
returns-clause-after g c =
    filled_holds (g.S.Source.shows c.args.source.now) (g.S.Source.extent c.args.source.now) c.args.out.now c.loop-slot.slot-items c.loop-slot.place.offset c.loop-slot.slot-index c.in_ok-n.n
    c.loop-slot.invariant c.if-out-n.false c.loop-slot.auto.slot-items c.loop-slot-test.false

-- the laws hold of every source
module _ (g : given.Over) (source : g.row.S.Denot) where
  reads_back : ProgramReadsBack (g.S.Source.shows source) (g.S.Source.extent source)
  reads_back = program_reads_back _ _ (g.S.Source.ends source)

  writes_back : ProgramWritesBack (g.S.Source.shows source) (g.S.Source.extent source)
  writes_back = program_writes_back _ _ (g.S.Source.ends source) (g.S.Source.small source)

  stops : ProgramStopsAtFirstFault (g.S.Source.shows source) (g.S.Source.extent source)
  stops = program_stops _ _ (g.S.Source.ends source) (g.S.Source.small source)

pub returns-in_err-n-clause-reads_back : goal.returns-in_err-n-clause-reads_back
returns-in_err-n-clause-reads_back g c = reads_back g c.args.source.now

pub returns-in_err-n-clause-stops_at_first_fault : goal.returns-in_err-n-clause-stops_at_first_fault
returns-in_err-n-clause-stops_at_first_fault g c = stops g c.args.source.now

pub returns-then-out-n-clause-reads_back : goal.returns-then-out-n-clause-reads_back
returns-then-out-n-clause-reads_back g c = reads_back g c.args.source.now

pub returns-then-out-n-clause-writes_back : goal.returns-then-out-n-clause-writes_back
returns-then-out-n-clause-writes_back g c = writes_back g c.args.source.now

pub returns-clause-reads_back : goal.returns-clause-reads_back
returns-clause-reads_back g c = reads_back g c.args.source.now

pub returns-clause-writes_back : goal.returns-clause-writes_back
returns-clause-writes_back g c = writes_back g c.args.source.now
