-- What the library prints of a quantity. Assumes nothing.
use Rattle.std.proofs.Common.{◌≡◌, ℕ, suc, ◌-◌, ◌^◌, ℤ, pos, negsuc, true, false, [], ◌++◌, length, arith}
use mathlib.Core.List.{append-nil, append_assoc}
use Rattle.std.proofs.lemmas.Bool.{le-ltb}
use Rattle.std.specs.Prelude.{codes}
use Rattle.std.specs.Fmt.{char_count, digits, decimal, format_spec, padded_integral, styled_signed_decimal}
use Rattle.quantity.specs.Text.{hexadecimal, with_sign}

-- the hole `{:08X}`, and the letter behind it
pub eight_capitals : (n : ℕ) → padded_integral (format_spec 32 0 4 8 (2 ^ 64 - 1)) false [] (digits 16 true n) ++ codes "h" ≡ hexadecimal n
unfolding padded_integral char_count
eight_capitals n =
    let short : 8 - length (digits 16 true n) - 0 - 0 ≡ 8 - length (digits 16 true n) = omega arith in
    rw (append-nil, short, append_assoc)

-- the hole `{:+}`
pub with_plus : (z : ℤ) → styled_signed_decimal (format_spec 32 0 1 0 (2 ^ 64 - 1)) z ≡ with_sign z
unfolding padded_integral char_count
with_plus (pos n) =
    let none : 0 - length (decimal n) - 1 - 0 ≡ 0 = omega arith in
    rw (le-ltb n 0 (omega arith), none, append-nil)
with_plus (negsuc n) =
    let none : 0 - length (decimal (suc n)) - 1 - 0 ≡ 0 = omega arith in
    rw (none, append-nil)
