pub mod Windows
pub mod Before
pub mod Laws
