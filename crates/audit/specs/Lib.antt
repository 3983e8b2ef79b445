pub mod Accounts
pub mod Verdicts
pub mod Inputs
pub mod Standing
