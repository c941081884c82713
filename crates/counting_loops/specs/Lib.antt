pub mod Paces
pub mod Kinds
pub mod Words
pub mod Steps
pub mod Rounds
pub mod Scratch
