pub mod Bits
pub mod Matching
pub mod Merge
pub mod Place
pub mod Skip
pub mod Strikes
pub mod Tally
pub mod Turn
