pub mod Arrives
pub mod Counts
pub mod Ends
pub mod Rooms
pub mod Served
pub mod Talks
