pub mod Printed
pub mod Reduced
