pub mod Candidates
pub mod Clearing
