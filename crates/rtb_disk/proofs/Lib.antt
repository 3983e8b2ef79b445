pub mod Writes
pub mod Moments
pub mod Replayed
pub mod Crashing
