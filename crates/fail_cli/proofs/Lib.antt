pub mod AllCounts
pub mod Crashes
pub mod EachCommand
pub mod Endings
pub mod Reported
pub mod Said
