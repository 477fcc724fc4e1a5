pub mod Mapping
pub mod Passing
