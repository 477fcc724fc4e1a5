pub mod Passes
pub mod Stores
pub mod Tables
pub mod Accepted
