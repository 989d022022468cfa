pub mod Edits
pub mod Told
pub mod Answers
