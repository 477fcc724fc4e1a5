pub mod Writing
pub mod Spelled
