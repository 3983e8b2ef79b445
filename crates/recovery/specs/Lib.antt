pub mod Counts
pub mod Damage
pub mod Openings
pub mod Texts
pub mod Turns
