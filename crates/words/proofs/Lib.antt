pub mod Marking
pub mod Verifying
