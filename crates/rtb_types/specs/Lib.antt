pub mod Paths
pub mod Valid
