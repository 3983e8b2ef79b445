pub mod Closing
pub mod Elements
pub mod Replies
