mod Ahead
mod CrewCases
mod Near
mod Numbered
mod Offers
mod Since
pub mod StepLists
mod StepSums
mod Waitings
