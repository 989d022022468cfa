pub mod Within
pub mod Onward
pub mod Bytes
pub mod Digits
