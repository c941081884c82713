pub mod Debug
pub mod Talk
