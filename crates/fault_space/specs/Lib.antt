pub mod Bounds
pub mod Weights
