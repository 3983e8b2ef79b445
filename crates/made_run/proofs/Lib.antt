pub mod Held
pub mod Keeping
pub mod Lines
pub mod Posts
pub mod SoFar
pub mod Taken
