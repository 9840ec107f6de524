-- A reader that takes an instruction has fewer bytes ahead of it. Assumes nothing.
use Rattle.std.proofs.Common.{◌≡◌, ◌-◌, ◌<◌, length, Ok, sym, subst, arith}
use Rattle.cisca.specs.declared.instruction.Instruction.{Instruction}
use Rattle.codec.specs.Laws.{WritesBack}
use Rattle.codec.specs.Sources.{listed, listed_ends}
use Rattle.codec.specs.declared.reader.Reader.{Reader}
use Rattle.codec.specs.declared.source.ByteString.{ByteString}
use Rattle.program.proofs.Reading.{before_end}

pub moves : (old new : Reader ByteString) (i : Instruction) → new.source ≡ old.source → WritesBack (listed old.source.0.now) old.place.offset new.place.offset (Ok i) → length new.source.0.now - new.place.offset < length old.source.0.now - old.place.offset
moves old new i same w =
    let bytes = old.source.0.now in
    let within : old.place.offset < length bytes = before_end (listed bytes) (length bytes) old.place.offset _ (listed_ends bytes) w.0.0 in
    let behind = w.1 in
    subst (λ (s : ByteString). length s.0.now - new.place.offset < length bytes - old.place.offset) (sym same) (omega arith)
