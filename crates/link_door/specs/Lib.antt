pub mod Doors
pub mod Memory
pub mod MemoryWorld
pub mod Worlds
