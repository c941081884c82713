pub mod Page
pub mod Index
pub mod Desk
pub mod Tally
pub mod Filing
