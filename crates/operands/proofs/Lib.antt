pub mod Modes
pub mod Same
