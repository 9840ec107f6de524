pub mod Comparing
pub mod Equal
pub mod Filling
pub mod Laws
pub mod Reading
pub mod Writing
