pub mod Languages
pub mod Answers
pub mod Doors
pub mod Working
