pub mod Finding
pub mod Storing
