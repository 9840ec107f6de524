use Rattle.std.proofs.Common.{◌≡◌, ◌∙◌, arith}
use Rattle.std.proofs.lemmas.Grind.{common_steps}
use Rattle.program.specs.Programs.{program_bytes}
use Rattle.loading.specs.Laid.{laid}
use Rattle.loading.proofs.Lays.{laid_more}
use Rattle.loading.proofs.Ranges.{laid_elsewhere, sealed_reads, sealed_shows}
use Rattle.loading.proofs.laying.lay_program.Goals as goal

pub loop-instruction-preserved : goal.loop-instruction-preserved
loop-instruction-preserved g c =
    laid_more c.args.program.now c.loop-instruction.instruction-index c.instruction-item.result
    (g.S.Readable.cells c.loop-instruction.store) (g.S.Readable.cells c.lay_instruction-next.new.store) c.loop-instruction.next c.lay_instruction-next.result
    c.loop-instruction-test.true c.instruction-item.is c.lay_instruction-next.ensures.after c.lay_instruction-next.ensures.behind
    ∙ c.loop-instruction.invariant

pub returns : goal.returns
returns g c =
    let is = c.args.program.now in
    let a = c.args.at in
    let m = g.S.Readable.cells c.args.store.now in
    let n = g.S.Readable.cells c.loop-instruction.store in
    let e : n ≡ laid m a (program_bytes is) = grind (arith, common_steps) in
    record {
      after = e;
      others_stay = laid_elsewhere (program_bytes is) m n a e;
      holds_fixed = sealed_shows (program_bytes is) m n a e;
      reads_as_listed = sealed_reads is m n a e;
    }
