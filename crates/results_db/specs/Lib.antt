pub mod Rows
pub mod Export
pub mod Stories
