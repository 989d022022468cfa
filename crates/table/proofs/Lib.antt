pub mod Turns
pub mod Scans
pub mod Digests
