pub mod Numbers
pub mod Refusal
