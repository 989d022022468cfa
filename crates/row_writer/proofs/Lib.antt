pub mod Puts
mod Widths
mod Filled
pub mod Moved
