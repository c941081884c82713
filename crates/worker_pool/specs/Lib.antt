pub mod Steps
pub mod Waiting
pub mod Workers
pub mod Crews
pub mod CrewData
pub mod CrewKept
