pub mod Storing
pub mod Growth
