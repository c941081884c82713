pub mod Cards
pub mod Heads
pub mod Lists
pub mod Names
pub mod RunWalk
mod Seen
pub mod Spots
pub mod Ascending
pub mod Walks
pub mod Written
pub mod Agreeing
