pub mod Debugging
pub mod Serving
pub mod Breaking
pub mod Weights
