pub mod Replies
pub mod Response
