pub mod Beside
pub mod Gathering
pub mod Headers
pub mod Lines
pub mod Passing
pub mod Seen
pub mod Trimming
pub mod Writing
