pub mod Places
pub mod Kept
pub mod Watches
pub mod Writes
pub mod Timelines
pub mod Pass
pub mod Apart
