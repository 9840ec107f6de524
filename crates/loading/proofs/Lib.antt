pub mod Lays
pub mod Offsets
pub mod Ranges
