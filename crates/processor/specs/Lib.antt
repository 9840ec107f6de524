pub mod Effects
pub mod Faults
pub mod Interrupts
pub mod Processors
pub mod Registers
pub mod Views
