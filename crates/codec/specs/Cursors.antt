-- What a cursor over a source reads. Assumes nothing.
use Rattle.std.specs.Prelude.{◌≡◌, ℕ, Result}
use Rattle.codec.specs.Decoding.{Read, taken}
use Rattle.codec.specs.Sources.{Bytes}
use Rattle.codec.specs.declared.decode.Cursor.{Cursor}
use Rattle.codec.specs.declared.fault.ReadFault.{ReadFault}

-- a cursor answers what is read at its place, and stands behind it, over the same source
pub record Reads {S X : Type 0} (shows : S → Bytes) (read : Bytes → ℕ → Read X) (old new : Cursor S) (result : Result X ReadFault) : Type 0 where
  pub same : new.source ≡ old.source
  pub reads : taken result new.place.offset ≡ read (shows old.source.now) old.place.offset
