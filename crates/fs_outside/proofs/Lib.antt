mod Elsewhere
mod FrontReads
pub mod Moments
mod Replays
mod Taken
mod Tapes
pub mod Writes
