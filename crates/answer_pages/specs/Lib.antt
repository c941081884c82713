pub mod Ready
pub mod Refusal
pub mod Text
pub mod Workers
