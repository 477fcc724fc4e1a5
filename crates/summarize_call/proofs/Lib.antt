pub mod Passing
pub mod Summing
