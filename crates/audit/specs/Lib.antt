pub mod Refusal
pub mod Reruns
pub mod Text
