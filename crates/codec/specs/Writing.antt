-- Writing into a caller's buffer. Assumes nothing.
use Rattle.std.specs.Prelude.{ℕ, cond, List, ◌++◌, length, drop, Ok, Err, Result, nat_lt}
use Rattle.codec.specs.declared.fault.WriteFault.{WriteFault}
use Rattle.codec.specs.declared.fault.WriteFault.TheVariants.{Short}

-- what it answers to write these bytes into a buffer of this length: how many they are
abbrev pub written : List ℕ → ℕ → Result ℕ WriteFault
written bs room = cond (nat_lt room (length bs)) (Err Short) (Ok (length bs))

-- the buffer then: the bytes, and behind them what it held; or all as it was, if it is too short
abbrev pub overlaid : List ℕ → List ℕ → List ℕ
overlaid bs old = cond (nat_lt (length old) (length bs)) old (bs ++ drop (length bs) old)
