pub mod Letters
pub mod Operations
pub mod Passing
