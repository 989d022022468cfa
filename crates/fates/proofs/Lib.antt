pub mod Rows
mod Scans
pub mod Texts
mod Refusals
mod Examples
