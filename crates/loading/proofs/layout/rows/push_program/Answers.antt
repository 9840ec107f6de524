use Rattle.std.proofs.Common.{arith}
use Rattle.std.proofs.lemmas.List.Folds.{length-flat_map-take}
use Rattle.codec.specs.Encoding.{bytes}
use Rattle.loading.proofs.layout.rows.push_program.Goals as goal

pub push_record-requires : goal.push_record-requires
push_record-requires c =
    let i = c.instruction-item.result in
    let h = length-flat_map-take bytes c.args.program.now c.loop-instruction.instruction-index i c.loop-instruction-test.true in
    let k = rw (← c.instruction-item.is) at h in
    omega arith
