pub mod Commands
pub mod Memory
pub mod Methods
pub mod Numbers
pub mod Paths
pub mod Posted
pub mod Signed
