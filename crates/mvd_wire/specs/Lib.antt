pub mod Frames
pub mod Codec
pub mod Codecs
pub mod Prefix
pub mod Replies
pub mod Requests
pub mod Rows
pub mod Token
