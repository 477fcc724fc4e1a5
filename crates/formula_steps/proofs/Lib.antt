pub mod Reducing
pub mod Stepping
