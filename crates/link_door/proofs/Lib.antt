pub mod Links
pub mod Moved
