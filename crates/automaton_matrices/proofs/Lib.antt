pub mod Letters
pub mod Comparing
pub mod Storing
