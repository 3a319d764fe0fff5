pub mod Pieces
pub mod Talking
pub mod Typing
pub mod Fronts
