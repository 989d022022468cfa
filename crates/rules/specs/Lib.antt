pub mod Rules
pub mod Known
pub mod Pass
pub mod Listing
pub mod Verdict
pub mod Notes
pub mod Ending
