pub mod Receives
pub mod Streams
pub mod Talk
