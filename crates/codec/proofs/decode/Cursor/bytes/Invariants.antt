use Rattle.codec.proofs.Bytes.{Reading}
use Rattle.codec.proofs.decode.Cursor.bytes.Given as goal

abbrev pub invariant-loop-byte : goal.invariant-loop-byte
invariant-loop-byte g l = Reading g.S.Source.shows l.initial.self l.self g.row.N l.byte-items l.byte-index
