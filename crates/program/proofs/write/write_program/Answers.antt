use Rattle.std.proofs.Common.{◌+◌, ◌≤◌, length, sym, rules}
use Rattle.program.proofs.Writing.{laying_all, laying_more, laying_fits, laying_sum, measured}
use Rattle.program.proofs.write.write_program.Goals as goal

pub unwrap-at-requires : goal.unwrap-at-requires
unwrap-at-requires c =
    laying_fits c.args.program.now c.args.out.now c.loop-instruction.out c.loop-instruction.instruction-index c.loop-instruction.at c.loop-instruction.invariant
    c.instruction-item.result (measured c.args.program.now (length c.args.out.now) c.in_ok-total.total c.in_ok-total.ensures)
    c.loop-instruction-test.true (sym c.instruction-item.is) c.write.result c.write.ensures.answers

pub loop-instruction-preserved : goal.loop-instruction-preserved
loop-instruction-preserved c =
    laying_more c.args.program.now c.args.out.now c.loop-instruction.out c.loop-instruction.instruction-index c.loop-instruction.at c.loop-instruction.invariant
    c.instruction-item.result (measured c.args.program.now (length c.args.out.now) c.in_ok-total.total c.in_ok-total.ensures)
    c.loop-instruction-test.true (sym c.instruction-item.is) c.unwrap-at.result c.write.new.out c.write.result c.unwrap-at.ensures c.write.ensures.answers c.write.ensures.after

pub overflow_add-at : goal.overflow_add-at
overflow_add-at c =
    let sum : c.loop-instruction.at + c.unwrap-at.result ≤ length c.loop-instruction.out =
    laying_sum c.args.program.now c.args.out.now c.loop-instruction.out c.loop-instruction.instruction-index c.loop-instruction.at c.loop-instruction.invariant
    c.instruction-item.result (measured c.args.program.now (length c.args.out.now) c.in_ok-total.total c.in_ok-total.ensures)
    c.loop-instruction-test.true (sym c.instruction-item.is) c.unwrap-at.result c.write.result c.unwrap-at.ensures c.write.ensures.answers in
    search rules

pub returns-clause-after : goal.returns-clause-after
returns-clause-after c =
    let is = c.args.program.now in
    let old = c.args.out.now in
    laying_all is old c.loop-instruction.out c.loop-instruction.instruction-index c.loop-instruction.at c.loop-instruction.invariant (measured is (length old) c.in_ok-total.total c.in_ok-total.ensures) c.loop-instruction-test.false
