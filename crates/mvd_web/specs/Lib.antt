pub mod Asked
pub mod Ends
pub mod Response
pub mod Web
pub mod Steps
pub mod Inside
pub mod Rights
