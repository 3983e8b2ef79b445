pub mod Entries
pub mod Rule
pub mod Steps
pub mod Places
pub mod Views
