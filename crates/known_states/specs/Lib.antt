pub mod Changes
pub mod Known
pub mod Entries
pub mod KnownSites
pub mod Trails
pub mod Live
