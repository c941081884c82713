pub mod Flows
pub mod Masks
