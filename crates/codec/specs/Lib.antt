pub mod Cursors
pub mod Decoding
pub mod Encoding
pub mod Faults
pub mod Laws
pub mod Readers
pub mod Sources
pub mod Writing
