pub mod Banks
pub mod Faults
