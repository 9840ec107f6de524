-- The causes of a step's refusal, each with its number, its address or port, and its part. Assumes nothing.
use Rattle.std.specs.Prelude.{ℕ, Some, None, Option}
use Rattle.ports.specs.Faults as port
use Rattle.processor.specs.declared.fault.Cause.{Cause}
use Rattle.processor.specs.declared.fault.Cause.TheVariants as cause
use Rattle.processor.specs.declared.fault.DestinationPart.{DestinationPart}
use Rattle.processor.specs.declared.fault.Part.{Part}
use Rattle.processor.specs.declared.fault.Part.TheVariants as part
use Rattle.processor.specs.declared.fault.PartFault.{PartFault}
use Rattle.processor.specs.declared.fault.SourcePart.{SourcePart}
use Rattle.processor.specs.declared.fault.StackPart.{StackPart}
use Rattle.processor.specs.declared.fault.VectorPart.{VectorPart}
use Rattle.quantity.specs.declared.Address.{Address}
use Rattle.quantity.specs.declared.Port.{Port}
use Rattle.words.specs.Faults as word
use Rattle.words.specs.declared.fault.WordFault.{WordFault}

-- a word's fault, at a part that reads or writes words
abbrev pub by_part : {P : Type 0} → WordFault → PartFault P
by_part f = record { word = f; at = record {} }

abbrev pub by_source : WordFault → PartFault SourcePart
by_source f = by_part f

abbrev pub by_destination : WordFault → PartFault DestinationPart
by_destination f = by_part f

abbrev pub by_stack : WordFault → PartFault StackPart
by_stack f = by_part f

abbrev pub by_vector : WordFault → PartFault VectorPart
by_vector f = by_part f

-- the fault of the word that was refused
abbrev pub word_of : Cause → Option WordFault
word_of (cause.Source f) = Some f.word
word_of (cause.Destination f) = Some f.word
word_of (cause.Stack f) = Some f.word
word_of (cause.Vector f) = Some f.word
word_of (cause.Port f) = None
word_of (cause.Index f) = None
word_of cause.NoProgram = None
word_of cause.NoStart = None
word_of cause.JournalFull = None

abbrev pub number_of : Cause → ℕ
number_of (cause.Source f) = word.number_of f.word
number_of (cause.Destination f) = word.number_of f.word
number_of (cause.Stack f) = word.number_of f.word
number_of (cause.Vector f) = word.number_of f.word
number_of (cause.Port f) = port.number_of f
number_of (cause.Index f) = 26
number_of cause.NoProgram = 20
number_of cause.NoStart = 25
number_of cause.JournalFull = 28

abbrev pub address_of : Cause → Option Address
address_of (cause.Source f) = Some (word.address_of f.word)
address_of (cause.Destination f) = Some (word.address_of f.word)
address_of (cause.Stack f) = Some (word.address_of f.word)
address_of (cause.Vector f) = Some (word.address_of f.word)
address_of (cause.Port f) = None
address_of (cause.Index f) = None
address_of cause.NoProgram = None
address_of cause.NoStart = None
address_of cause.JournalFull = None

abbrev pub port_of : Cause → Option Port
port_of (cause.Source f) = None
port_of (cause.Destination f) = None
port_of (cause.Stack f) = None
port_of (cause.Vector f) = None
port_of (cause.Port f) = Some (port.port_of f)
port_of (cause.Index f) = None
port_of cause.NoProgram = None
port_of cause.NoStart = None
port_of cause.JournalFull = None

abbrev pub part_of : Cause → Option Part
part_of (cause.Source f) = Some part.Source
part_of (cause.Destination f) = Some part.Destination
part_of (cause.Stack f) = Some part.Stack
part_of (cause.Vector f) = Some part.Vector
part_of (cause.Port f) = Some part.Port
part_of (cause.Index f) = None
part_of cause.NoProgram = None
part_of cause.NoStart = None
part_of cause.JournalFull = None
