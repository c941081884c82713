pub mod Changed
pub mod SameSent
pub mod Alike
pub mod Flips
