pub mod Saw
