pub mod Strings
pub mod Writer
pub mod Texts
pub mod Inside
