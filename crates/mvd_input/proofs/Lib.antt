mod Addressed
mod Commands
mod Consumed
mod Defined
pub mod Lines
mod Numbers
mod Ordered
mod Parting
mod Reading
mod Refused
pub mod Passing
