pub mod Values
pub mod Ways
