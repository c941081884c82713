-- Short programs, and what the definitions say of them.
pub mod Cases
mod Halts
mod Prints
mod CountsDown
mod RunsOn
mod Loads
mod Stores
pub mod Endings
mod PcCell
mod CodeInRam
