pub mod Now
pub mod Anyone
