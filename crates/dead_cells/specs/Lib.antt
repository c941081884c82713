pub mod Differs
pub mod DeadCells
pub mod Live
pub mod Rounds
