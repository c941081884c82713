pub mod Call
pub mod WindowStatus
pub mod Ends
pub mod Says
pub mod Crash
pub mod Causes
pub mod Answered
