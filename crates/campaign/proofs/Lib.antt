mod Apart
mod Closing
mod Counted
mod Cuts
mod Drawing
mod DrawnJobs
pub mod Due
pub mod Missing
pub mod InWindow
pub mod OfShard
mod OnePage
mod OwnSteps
mod Running
mod Sampling
mod Steps
mod Turns
mod UpTo
pub mod Whole
