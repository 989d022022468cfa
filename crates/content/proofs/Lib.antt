pub mod Tested
pub mod Cores
pub mod Arms
