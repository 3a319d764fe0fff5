pub mod TheStore
pub mod Handed
pub mod Apart
pub mod Alike
