pub mod Auction
pub mod Consistent
pub mod Effects
pub mod Fronts
pub mod History
pub mod State
pub mod Step
