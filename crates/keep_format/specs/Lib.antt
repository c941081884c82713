pub mod KeepFile
pub mod Reading
pub mod RawRows
pub mod Marks
pub mod Order
pub mod Runs
pub mod Laws
