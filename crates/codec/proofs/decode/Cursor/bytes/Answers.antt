use Rattle.codec.proofs.Bytes.{reading_all, reading_more}
use Rattle.codec.proofs.decode.Cursor.bytes.Goals as goal

pub loop-byte-preserved : goal.loop-byte-preserved
loop-byte-preserved g c = reading_more _ _ _ _ _ _ _ _ c.loop-byte.invariant c.loop-byte-test.true c.in_ok-byte.ensures

pub returns : goal.returns
returns g c = reading_all _ _ _ _ _ _ c.loop-byte.invariant c.loop-byte-test.false
