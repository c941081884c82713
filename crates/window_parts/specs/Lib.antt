pub mod Members
pub mod Spans
pub mod Parts
