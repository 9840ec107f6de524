pub mod Conversions
pub mod Integers
pub mod Sums
pub mod Text
