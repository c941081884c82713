pub mod MemRows
pub mod Refusal
