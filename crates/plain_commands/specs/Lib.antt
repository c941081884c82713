pub mod Counting
pub mod Plans
pub mod Trace
pub mod Walk
pub mod Sent
