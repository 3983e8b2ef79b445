pub mod Audit
pub mod Addresses
pub mod CommandLines
pub mod Commands
pub mod Make
pub mod Compact
pub mod Follow
pub mod Which
