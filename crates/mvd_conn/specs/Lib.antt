pub mod Rights
pub mod Passes
pub mod Guard
pub mod History
pub mod Stands
pub mod Front
pub mod Inside
