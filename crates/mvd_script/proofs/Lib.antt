pub mod Playing
pub mod Heads
pub mod Running
pub mod Reporting
