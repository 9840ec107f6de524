use Rattle.std.proofs.Common.{◌≡◌, ◌-◌}
use Rattle.loading.specs.Laid.{vacancy}
use Rattle.loading.proofs.laying.vacant.Given as goal

abbrev pub invariant-loop-k : goal.invariant-loop-k
invariant-loop-k g l = vacancy (g.S.Readable.cells l.store) l.next (l.count - l._k) ≡ vacancy (g.S.Readable.cells l.store) l.initial.next l.count
