pub mod Crashes
pub mod Images
pub mod Memory
pub mod Record
pub mod Showing
pub mod Stores
