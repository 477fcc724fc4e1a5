pub mod Bytes
pub mod Factors
pub mod Passes
