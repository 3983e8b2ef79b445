pub mod Campaigns
pub mod Content
pub mod Cost
pub mod Find
pub mod Growing
pub mod Searching
pub mod Standing
