pub mod Calls
pub mod Faults
pub mod Loads
pub mod Machines
pub mod States
pub mod Steps
