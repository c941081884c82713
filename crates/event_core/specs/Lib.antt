pub mod EventCore
pub mod PageEvents
pub mod State
pub mod Stops
