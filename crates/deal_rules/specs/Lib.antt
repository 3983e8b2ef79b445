pub mod Alike
pub mod Marks
pub mod Named
pub mod Offers
pub mod Rules
pub mod Seen
pub mod Terms
