use Rattle.std.proofs.Common.{◌≡◌, ◌^◌, ◌<◌, rules}
use Rattle.quantity.specs.Integers.{outside, signed, word}
use Rattle.arithmetic.proofs.Dividing.{overflows, parts}
use Rattle.arithmetic.proofs.division.divide.Goals as goal
use Rattle.arithmetic.specs.Results.{quotient_of, remainder_of}

pub returns : goal.returns
returns c =
    let above : 0 < c.args.b.0 = search rules in
    let narrow : c.args.b.0 < 2 ^ 32 = search rules in
    let whole : c.with_result.result.0.0 ≡ word (quotient_of c.args.a c.args.b) = search rules in
    let rest : c.cast_unsigned-2.result ≡ word (remainder_of c.args.a c.args.b) = search rules in
    let over : c.with_result.result.1.overflow ≡ outside (quotient_of c.args.a c.args.b) = search (rules, overflows) in
    record {
      result = search rules;
      divides =
          parts (signed c.args.a.0) c.args.b.0 c.with_result.result.0.0 c.cast_unsigned-2.result c.with_result.result.1.overflow
          above narrow whole rest over;
      marks = (tt, tt, tt, tt, search rules);
    }
