pub mod Values
pub mod Adding
pub mod Following
pub mod Tables
pub mod Loops
