pub mod Rows
pub mod Maps
pub mod Laws
pub mod Examples
