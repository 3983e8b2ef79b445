pub mod Conjunctive
pub mod Content
pub mod Find
pub mod Growing
pub mod Listed
pub mod Values
pub mod Searching
pub mod Making
