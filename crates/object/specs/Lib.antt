pub mod Meaning
pub mod Held
pub mod Reader
pub mod Lawful
pub mod Facts
