pub mod Union
pub mod Gained
pub mod Merged
pub mod Laws
