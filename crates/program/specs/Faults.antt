-- The number and the place of each refusal of a whole program. Assumes nothing.
use Rattle.std.specs.Prelude.{ℕ, Some, None, Option}
use Rattle.codec.specs.Faults as read
use Rattle.codec.specs.declared.fault.Place.{Place}
use Rattle.program.specs.declared.fault.ProgramFault.{ProgramFault}
use Rattle.program.specs.declared.fault.ProgramFault.TheVariants.{Read, Short}

abbrev pub number_of : ProgramFault → ℕ
number_of (Read f) = read.number_of f.cause
number_of Short = 6

abbrev pub place_of : ProgramFault → Option Place
place_of (Read f) = Some f.place
place_of Short = None
