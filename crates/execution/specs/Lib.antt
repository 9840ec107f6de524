pub mod Commands
pub mod Contexts
pub mod Executions
pub mod Interrupts
pub mod Jumps
pub mod Pending
pub mod Ports
pub mod Stack
