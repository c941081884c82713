pub mod Stories
pub mod OneCause
pub mod Called
