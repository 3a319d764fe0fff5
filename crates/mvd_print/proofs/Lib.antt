pub mod Siblings
pub mod Rows
pub mod Left
