pub mod Names
pub mod Laws
pub mod Examples
