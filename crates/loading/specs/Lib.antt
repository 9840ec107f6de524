pub mod Laid
pub mod Layouts
pub mod Listed
