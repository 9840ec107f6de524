use Rattle.std.proofs.Common.{sym, ap, ◌∙◌}
use Rattle.journal.proofs.Undoing.{undoes}
use Rattle.journal.specs.Entries.{undone}
use Rattle.processor.specs.Views.{effected, view}
use Rattle.stepping.specs.Steps.{settled, taken}
use Rattle.stepping.proofs.settle.Goals as goal

pub returns : goal.returns
returns g c =
    let v = view c.args.processor.now (g.S.Readable.cells c.args.store.now) (g.P.Ports.words c.args.ports.now) in
    record {
      answers = sym (ap (λ r. taken (effected r v)) c.in_ok-effect.was);
      after = c.commit.ensures.after ∙ sym (ap (λ r. settled (effected r v) v) c.in_ok-effect.was);
      takes_back = (λ i. undone (c.commit.ensures.entry i) (c.commit.ensures.after i)) ∙ undoes c.in_ok-effect.effect v;
    }
