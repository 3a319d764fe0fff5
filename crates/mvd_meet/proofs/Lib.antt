pub mod Hearing
pub mod Stepped
pub mod Taking
pub mod Turning
