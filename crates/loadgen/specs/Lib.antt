pub mod Draws
pub mod Pieces
pub mod Texts
