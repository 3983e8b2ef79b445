pub mod Caps
pub mod Encoding
pub mod Faults
pub mod Groups
pub mod Kept
pub mod Marks
pub mod Paths
