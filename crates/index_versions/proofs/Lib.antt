pub mod Among
pub mod Edits
pub mod Firsts
pub mod Live
pub mod Present
