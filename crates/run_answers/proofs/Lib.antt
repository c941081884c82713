pub mod Fronts
pub mod Legs
pub mod Rests
pub mod Outcomes
pub mod Passed
pub mod Sites
pub mod Digits
