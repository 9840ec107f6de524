pub mod Calls
pub mod Coded
pub mod Laws
pub mod Runs
pub mod Standing
