pub mod Bodies
pub mod Bytes
pub mod Examples
pub mod Tags
