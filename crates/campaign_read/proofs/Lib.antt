pub mod Made
pub mod Required
pub mod Last
