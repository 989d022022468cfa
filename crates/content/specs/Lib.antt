pub mod Core
pub mod Aims
pub mod Bare
