pub mod Depth
pub mod Telling
pub mod Groups
pub mod Reach
pub mod Sections
pub mod Theorems
pub mod Matching
pub mod Examples
