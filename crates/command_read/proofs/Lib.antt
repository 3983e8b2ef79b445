pub mod Cases
pub mod Kept
pub mod Once
pub mod Readings
pub mod Refused
pub mod Signed
pub mod Valid
