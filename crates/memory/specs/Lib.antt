pub mod Access
pub mod Cells
pub mod Faults
pub mod Layers
