pub mod Logs
pub mod Moves
pub mod Turns
pub mod Openings
pub mod Seats
pub mod Open
