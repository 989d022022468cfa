pub mod OneProof
pub mod Binds
pub mod Drawing
pub mod Telling
pub mod Asking
