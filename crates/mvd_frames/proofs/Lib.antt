pub mod FrameLemmas
pub mod FramesRead
pub mod Names
pub mod RefusalNumbers
pub mod ReplyLaws
pub mod RequestLaws
pub mod RowLaws
pub mod Tagged
