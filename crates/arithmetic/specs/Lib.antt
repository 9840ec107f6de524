pub mod Laws
pub mod Marks
pub mod Results
pub mod StatusWord
pub mod Worked
