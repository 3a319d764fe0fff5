pub mod Serving
pub mod Among
