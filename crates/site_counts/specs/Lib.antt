pub mod Counts
pub mod Laws
pub mod Boards
pub mod Lines
