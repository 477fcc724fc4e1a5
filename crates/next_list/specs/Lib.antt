pub mod Pairs
pub mod Adding
pub mod Following
