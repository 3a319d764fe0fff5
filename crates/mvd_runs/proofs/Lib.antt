pub mod Calling
pub mod Telling
pub mod Filing
pub mod Pushing
pub mod PushTurns
pub mod NewFiles
pub mod Commands
pub mod Working
