use Rattle.std.proofs.Common.{subst}
use Rattle.actions.specs.Actions.{action}
use Rattle.cisca.specs.Making.{parts}
use Rattle.execution.specs.Executions.{executed, next_address}
use Rattle.processor.specs.Views.{view}
use Rattle.stepping.proofs.Comparing.{conditions_compare}
use Rattle.stepping.proofs.Lifting.{goes, registers, stepped_made, status}
use Rattle.stepping.specs.Laws.{ActionGoes, ActionStatus, RegistersStay}
use Rattle.stepping.specs.Steps.{Steps}
use Rattle.stepping.proofs.execute.Goals as goal

pub returns : goal.returns
returns g c =
    let v = view c.args.processor.now (g.S.Readable.cells c.args.store.now) (g.P.Ports.words c.args.ports.now) in
    let w = view c.settle.new.processor (g.S.Readable.cells c.settle.new.store) (g.P.Ports.words c.settle.new.ports) in
    let i = c.args.instruction.now in
    let x = action (parts i) in
    let steps : Steps (executed i v) c.settle.result v w = subst (λ y. Steps y c.settle.result v w) c.plan-planned.ensures c.settle.ensures in
    record {
      steps = steps;
      registers = stepped_made (λ q. RegistersStay x v.processor q) steps (registers i v);
      status = stepped_made (λ q. ActionStatus x v.processor q) steps (status i v);
      goes = stepped_made (λ q. ActionGoes x v.processor.status (next_address i v.processor) q.pc) steps (goes i v);
      conditions = conditions_compare;
    }
