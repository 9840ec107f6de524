use Rattle.std.proofs.Common.{sym, rules}
use Rattle.program.proofs.Writing.{measuring_all, measuring_more, measuring_short}
use Rattle.program.proofs.write.measure.Goals as goal

pub returns-in_err-left : goal.returns-in_err-left
returns-in_err-left c =
    let short =
    measuring_short c.args.program.now c.args.room c.loop-instruction.instruction-index c.loop-instruction.left c.encoded_length.result c.instruction-item.result
    c.loop-instruction.invariant c.loop-instruction-test.true (sym c.instruction-item.is) c.encoded_length.ensures.value c.checked_sub.result c.checked_sub.ensures c.in_err-left.ensures.ok_part in
    search rules

pub loop-instruction-preserved : goal.loop-instruction-preserved
loop-instruction-preserved c =
    measuring_more c.args.program.now c.args.room c.loop-instruction.instruction-index c.loop-instruction.left c.encoded_length.result c.instruction-item.result
    c.loop-instruction.invariant c.loop-instruction-test.true (sym c.instruction-item.is) c.encoded_length.ensures.value c.checked_sub.result c.in_ok-left.left c.checked_sub.ensures c.in_ok-left.ensures.ok_part

pub returns : goal.returns
returns c = measuring_all c.args.program.now c.args.room c.loop-instruction.instruction-index c.loop-instruction.left c.loop-instruction.invariant c.loop-instruction-test.false
