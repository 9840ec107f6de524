use Rattle.std.proofs.Common.{vec_items}
use Rattle.journal.proofs.Telling.{earlier_pushed}
use Rattle.journal.specs.Stories.{view_of}
use Rattle.journal.proofs.journaled.calls.JournaledJournal.record.Goals as goal

pub returns-clause-after : goal.returns-clause-after
returns-clause-after g c =
    let t = c.args.self.now in
    let more = earlier_pushed (vec_items t.entries) c.args.effect (view_of g.M.Readable.cells g.P.Ports.words t) in
    rw (← c.if-not-has_room.ensures) cc
