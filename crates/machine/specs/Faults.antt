-- The number of each refusal, and its address or port. Assumes nothing.
use Rattle.std.specs.Prelude.{ℕ, Some, None, Option}
use Rattle.machine.specs.declared.fault.CallFault.{CallFault}
use Rattle.machine.specs.declared.fault.CallFault.TheVariants as fault
use Rattle.memory.specs.Faults as store
use Rattle.ports.specs.Faults as port
use Rattle.quantity.specs.declared.Address.{Address}
use Rattle.quantity.specs.declared.Port.{Port}
use Rattle.words.specs.Faults as word

abbrev pub number_of : CallFault → ℕ
number_of fault.NoProgram = 20
number_of fault.Loaded = 21
number_of fault.Empty = 22
number_of fault.TooLong = 23
number_of fault.OutOfRange = 24
number_of fault.Index = 26
number_of fault.Waiting = 27
number_of fault.JournalFull = 28
number_of fault.NoEntry = 29
number_of (fault.Byte f) = store.number_of f
number_of (fault.Word f) = word.number_of f
number_of (fault.Port f) = port.number_of f

abbrev pub address_of : CallFault → Option Address
address_of fault.NoProgram = None
address_of fault.Loaded = None
address_of fault.Empty = None
address_of fault.TooLong = None
address_of fault.OutOfRange = None
address_of fault.Index = None
address_of fault.Waiting = None
address_of fault.JournalFull = None
address_of fault.NoEntry = None
address_of (fault.Byte f) = Some (store.address_of f)
address_of (fault.Word f) = Some (word.address_of f)
address_of (fault.Port f) = None

abbrev pub port_of : CallFault → Option Port
port_of fault.NoProgram = None
port_of fault.Loaded = None
port_of fault.Empty = None
port_of fault.TooLong = None
port_of fault.OutOfRange = None
port_of fault.Index = None
port_of fault.Waiting = None
port_of fault.JournalFull = None
port_of fault.NoEntry = None
port_of (fault.Byte f) = None
port_of (fault.Word f) = None
port_of (fault.Port f) = Some (port.port_of f)
