pub mod Map
pub mod Laws
pub mod Examples
