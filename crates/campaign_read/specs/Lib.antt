pub mod Parts
pub mod Cap
pub mod Target
pub mod Campaign
