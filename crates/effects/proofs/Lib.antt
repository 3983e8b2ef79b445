pub mod Bodied
pub mod Fronts
pub mod PartCodes
pub mod Sequences
