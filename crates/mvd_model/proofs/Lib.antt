pub mod Refusals
pub mod Alike
pub mod Placing
pub mod Runs
pub mod Agreeing
pub mod Handing
pub mod Mixing
