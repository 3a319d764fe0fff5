pub mod Asked
pub mod Fits
pub mod ReadLine
pub mod Shell
pub mod Talk
pub mod Told
