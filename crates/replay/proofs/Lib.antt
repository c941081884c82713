pub mod Stepped
pub mod Apart
pub mod Walked
pub mod Lines
pub mod Replayed
