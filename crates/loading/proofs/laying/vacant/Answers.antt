use Rattle.loading.proofs.Lays.{vacancy_next}
use Rattle.loading.proofs.laying.vacant.Goals as goal

pub loop-k-preserved : goal.loop-k-preserved
loop-k-preserved g c =
    let e = vacancy_next (g.S.Readable.cells c.args.store.now) c.loop-k.next c.args.count c.loop-k._k c.loop-k-test.true in
    let f = rw (← c.in_ok-writable.ensures) at e in
    cc
