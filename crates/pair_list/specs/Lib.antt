pub mod Pairs
pub mod Steps
pub mod Searching
pub mod Tables
