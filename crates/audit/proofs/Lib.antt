pub mod Places
pub mod Right
