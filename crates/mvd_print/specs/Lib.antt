pub mod Added
pub mod Place
pub mod Text
