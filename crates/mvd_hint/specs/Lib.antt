pub mod Harm
pub mod Named
pub mod Stops
