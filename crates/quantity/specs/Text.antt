-- Quantities as text. Assumes nothing.
use Rattle.std.specs.Prelude.{ℕ, suc, ◌-◌, true, List, ◌∷◌, ◌++◌, length, replicate, ℤ, pos, negsuc, codes}
use Rattle.std.specs.Fmt.{decimal, digits}

-- eight hexadecimal capitals at least, and `h`
abbrev pub hexadecimal : ℕ → List ℕ
hexadecimal n = replicate (8 - length (digits 16 true n)) 48 ++ (digits 16 true n ++ codes "h")

-- a decimal with its sign, also where it is not negative
abbrev pub with_sign : ℤ → List ℕ
with_sign (pos n) = 43 ∷ decimal n
with_sign (negsuc n) = 45 ∷ decimal (suc n)
