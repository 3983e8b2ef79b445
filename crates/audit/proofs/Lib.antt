pub mod Auditing
pub mod Coming
pub mod Judging
pub mod Leading
pub mod OneVerdict
