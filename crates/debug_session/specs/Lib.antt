pub mod Parse
pub mod Texts
pub mod Words
pub mod LastWrites
pub mod Advice
pub mod Session
pub mod Answers
