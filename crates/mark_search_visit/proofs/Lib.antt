pub mod Values
pub mod Visiting
