mod Digits
mod Escapes
mod Innermost
mod Plain
mod Read
pub mod Objects
