pub mod NameLemmas
pub mod Owning
pub mod Walks
