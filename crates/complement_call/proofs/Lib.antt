pub mod Complements
pub mod Writing
pub mod Calling
