pub mod Fields
pub mod Places
pub mod Uleb
pub mod Examples
