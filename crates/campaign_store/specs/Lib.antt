pub mod Counts
pub mod Kept
pub mod Limits
pub mod Table
