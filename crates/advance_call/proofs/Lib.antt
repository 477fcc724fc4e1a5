pub mod Stepping
pub mod Ways
