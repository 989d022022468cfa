pub mod Below
pub mod Count
pub mod Nth
