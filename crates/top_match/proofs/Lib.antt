pub mod Order
pub mod Pigeon
pub mod Places
pub mod Sorted
pub mod Reasons
pub mod Marked
pub mod Turns
pub mod Certified
