use Rattle.std.proofs.Common.{rules}
use Rattle.codec.proofs.Cursors.{behind_operand}
use Rattle.codec.proofs.decode.Cursor.operands.Goals as goal

pub returns-in_err-second-in-Pair : goal.returns-in_err-second-in-Pair
returns-in_err-second-in-Pair g c = let second = behind_operand g.S.Source.shows c.args.group _ _ _ _ _ c.mode.ensures c.operand-in-Pair-2.ensures in search rules

pub returns-in_ok-second-in-Pair : goal.returns-in_ok-second-in-Pair
returns-in_ok-second-in-Pair g c = let second = behind_operand g.S.Source.shows c.args.group _ _ _ _ _ c.mode.ensures c.in_ok-second-in-Pair.ensures in search rules
