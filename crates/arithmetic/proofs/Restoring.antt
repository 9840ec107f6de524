-- A status that is packed and unpacked is as it was. Assumes nothing.
use Rattle.std.proofs.Common.{◌≡◌, arith}
use Rattle.std.proofs.lemmas.Bool.Decides.{nat_tests}
use Rattle.arithmetic.specs.StatusWord.{bit_of, packed, unpacked}
use Rattle.arithmetic.specs.declared.status.Status.{Status}

zero_back : (s : Status) → bit_of (packed s) 0 ≡ s.zero
zero_back s = grind (arith, nat_tests)

sign_back : (s : Status) → bit_of (packed s) 1 ≡ s.sign
sign_back s = grind (arith, nat_tests)

carry_back : (s : Status) → bit_of (packed s) 2 ≡ s.carry
carry_back s = grind (arith, nat_tests)

overflow-back : (s : Status) → bit_of (packed s) 3 ≡ s.overflow
overflow-back s = grind (arith, nat_tests)

enabled_back : (s : Status) → bit_of (packed s) 4 ≡ s.enabled
enabled_back s = grind (arith, nat_tests)

pub restored : (s : Status) → unpacked (packed s) ≡ s
restored s =
    λ i. record { zero = zero_back s i; sign = sign_back s i; carry = carry_back s i; overflow = overflow-back s i; enabled = enabled_back s i }
