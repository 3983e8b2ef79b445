pub mod Fronts
pub mod Reaching
