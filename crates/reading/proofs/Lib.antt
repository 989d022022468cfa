pub mod Walk
pub mod Sections
pub mod Firsts
pub mod Parting
pub mod Turns
pub mod Scan
pub mod Rooting
pub mod Ending
