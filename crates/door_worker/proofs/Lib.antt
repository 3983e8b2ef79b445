pub mod Going
pub mod Answering
pub mod Landing
pub mod Talking
pub mod Holding
