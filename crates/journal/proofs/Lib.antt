pub mod Telling
pub mod Undoing
