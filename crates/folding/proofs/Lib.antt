pub mod Rebuilt
pub mod Aimed
pub mod Folded
pub mod Follow
pub mod Reach
pub mod Swept
pub mod Both
pub mod Theorems
