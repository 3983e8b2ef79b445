pub mod Codes
pub mod Encodings
