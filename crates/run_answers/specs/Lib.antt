pub mod Answers
pub mod Kept
pub mod Legs
pub mod Line
pub mod Reference
