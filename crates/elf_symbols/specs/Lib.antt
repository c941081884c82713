pub mod Names
pub mod Owners
pub mod Sections
pub mod Symbols
