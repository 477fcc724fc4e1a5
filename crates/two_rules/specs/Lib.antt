pub mod Checking
pub mod Deciding
pub mod Comparing
