pub mod Groups
pub mod Modes
pub mod Text
pub mod Widths
