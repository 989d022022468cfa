pub mod Powers
pub mod Lawful
