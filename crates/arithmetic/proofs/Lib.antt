pub mod Dividing
pub mod Marking
pub mod Restoring
pub mod Wrapping
