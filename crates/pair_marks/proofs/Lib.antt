pub mod Kept
pub mod Ways
