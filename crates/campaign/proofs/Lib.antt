pub mod Decoding
pub mod Firsts
pub mod Rules
