pub mod Completing
pub mod Deciding
pub mod Joining
pub mod Parting
pub mod Summing
pub mod Walking
