pub mod Entries
pub mod Stories
