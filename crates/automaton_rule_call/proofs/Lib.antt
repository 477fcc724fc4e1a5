pub mod Calling
pub mod TwoWays
