pub mod Does
pub mod Piling
