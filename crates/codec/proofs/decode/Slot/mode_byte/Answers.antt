use Rattle.std.proofs.Common.{◌/◌, sym, ◌∙◌}
use Rattle.operands.proofs.Same.{same_register}
use Rattle.codec.specs.Decoding.{fits_behind, register_of}
use Rattle.codec.proofs.Operands.{judged_is, mode_taken}
use Rattle.codec.proofs.decode.Slot.mode_byte.Goals as goal

pub returns : goal.returns
returns c =
    sym (judged_is (fits_behind c.args.self.group c.args.self.before) c.args.byte c.args.place.offset c.in_ok-mode.mode c.new.result
    (mode_taken (c.args.byte / 16) c.try_from.result c.in_ok-mode.mode c.try_from.ensures c.in_ok-mode.ensures.cases)
    (sym c.fits.ensures ∙ c.if-not-fits.false)
    (sym c.is_clean.ensures ∙ c.if-not-is_clean.false)
    (same_register c.new.result (register_of c.args.byte) c.new.ensures))
