pub mod Injected
pub mod Differences
pub mod Text
pub mod Walk
pub mod Replay
