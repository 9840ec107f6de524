use Rattle.std.proofs.Common.{◌≡◌, drop}
use Rattle.loading.specs.Laid.{laid}
use Rattle.loading.proofs.laying.lay.Given as goal

abbrev pub invariant-loop-byte : goal.invariant-loop-byte
invariant-loop-byte g l = laid (g.S.Readable.cells l.initial.store) l.initial.next l.source ≡ laid (g.S.Readable.cells l.store) l.next (drop l.byte-index l.source)
