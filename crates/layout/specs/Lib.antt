pub mod Layout
pub mod Order
pub mod Reading
pub mod Verdict
