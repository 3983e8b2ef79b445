pub mod Pools
pub mod Hiring
pub mod Ending
