pub mod Absent
pub mod Few
pub mod Made
pub mod Making
pub mod Required
pub mod Singles
pub mod Texts
pub mod Whole
