use Rattle.std.proofs.Common.{◌≡◌, ℕ, is_ok, sym, ap, ◌∙◌}
use Rattle.std.proofs.lemmas.Bool.{cond-true}
use Rattle.journal.specs.Stories.{begun, story_of}
use Rattle.loading.specs.Listed.{program_of}
use Rattle.machine.proofs.Loading.{admitted_is, memory_laid, none_there, some_there}
use Rattle.machine.specs.Loads.{loaded_view}
use Rattle.machine.specs.Machines.{numbered_words, program_at, sealed_cells, state_of}
use Rattle.machine.specs.States.{present}
use Rattle.memory.specs.Cells.{Cell}
use Rattle.memory.specs.Layers.{addressed, sealed}
use Rattle.processor.specs.Views.{view}
use Rattle.program.specs.Programs.{program_bytes}
use Rattle.machine.proofs.machine.Machine.install.Goals as goal

pub returns : goal.returns
returns g c =
    let m = c.args.self.now in
    let is = c.args.program.now in
    let at = c.args.at in
    let n = c.args.length in
    let cells = g.S.Readable.cells in
    let words = g.P.Ports.words in
    let seal = m.system.memory in
    let s = state_of cells words m in
    let a = admitted_is at is s n c.requires in
    let below : ℕ → Cell = addressed (cells seal.below.below) in
    let written : ℕ → Cell = addressed (cells c.lay_program.new.store.below) in
    let covered : sealed_cells cells c.cover.new.self ≡ sealed at.0 n written =
    λ i. sealed (c.cover.ensures.ranged i).base.0 (c.cover.ensures.ranged i).length (addressed (cells (c.cover.ensures.over i).below)) in
    let memory = covered ∙ memory_laid below written seal.range.base.0 seal.range.length n at (program_bytes is) (m.unsealed (none_there m.base (program_of m.layout) a.empty)) c.lay_program.ensures.after a.long in
    let story : story_of (sealed_cells cells) (numbered_words words) c.forget.new.self ≡ begun (loaded_view at is (present s)) =
    c.forget.ensures ∙ (λ i. begun (view (c.new-self.ensures i) (memory i) (numbered_words words m.system.ports))) in
    let fits = sym c.lay_out.ensures.taken_up ∙ ap is_ok c.unwrap.ensures in
    let program = ap (program_at at) (c.lay_out.ensures.after ∙ cond-true _ _ _ fits) ∙ some_there at is a.some in
    λ i. record { program = program i; story = story i }
