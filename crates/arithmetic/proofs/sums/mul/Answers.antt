use Rattle.std.proofs.Common.{rules}
use Rattle.arithmetic.proofs.Wrapping.{product_word}
use Rattle.arithmetic.proofs.sums.mul.Goals as goal

pub returns : goal.returns
returns c = search (rules, product_word)
