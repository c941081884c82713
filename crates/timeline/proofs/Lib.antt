pub mod OnLegs
pub mod States
pub mod Searches
pub mod Keeping
pub mod Passing
pub mod Outputs
pub mod StopLemmas
pub mod ApartLemmas
