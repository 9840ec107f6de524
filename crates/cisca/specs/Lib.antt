pub mod Legality
pub mod Making
pub mod Pairings
pub mod Table
pub mod Text
