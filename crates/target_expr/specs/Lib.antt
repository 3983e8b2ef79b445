pub mod Attributes
pub mod Bytes
pub mod Kept
pub mod Loose
pub mod Pairs
pub mod Truth
pub mod Written
