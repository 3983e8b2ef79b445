pub mod Joined
pub mod Seats
pub mod Writable
