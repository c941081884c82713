pub mod Appended
pub mod Batches
pub mod Begun
pub mod Blanks
mod CardsTell
pub mod Cuts
mod Differences
mod FileFronts
pub mod Files
pub mod Filing
pub mod Gives
mod Headers
pub mod KeptRows
pub mod Once
pub mod OldRows
pub mod Opened
pub mod PartWay
pub mod Right
mod Settled
pub mod Sound
pub mod Stays
mod Written
