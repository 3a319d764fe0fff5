pub mod Outcomes
pub mod Script
pub mod Staged
