pub mod Accepts
pub mod Placed
pub mod Only
pub mod Back
pub mod Ranges
pub mod Aims
pub mod Texts
pub mod Steps
