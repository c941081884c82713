pub mod Counted
pub mod Planned
pub mod Sends
pub mod Traced
