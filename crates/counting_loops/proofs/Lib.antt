pub mod Wrapping
pub mod Numbers
pub mod Contents
pub mod Orders
pub mod Effects
pub mod Turns
pub mod Paths
