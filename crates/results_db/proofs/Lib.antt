pub mod Caused
pub mod Ends
pub mod RowLists
