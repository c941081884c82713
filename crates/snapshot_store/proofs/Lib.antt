pub mod AlongLegs
pub mod Places
