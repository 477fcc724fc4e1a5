pub mod Reducing
pub mod Calling
