pub mod Machine
pub mod Worlds
pub mod Agreeing
pub mod OpenWorlds
