pub mod Fixed
pub mod Recent
pub mod Touched
pub mod Versions
