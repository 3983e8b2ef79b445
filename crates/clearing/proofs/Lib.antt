pub mod Fronts
pub mod Members
pub mod Order
pub mod Sorting
pub mod Touched
pub mod Walking
pub mod Winner
