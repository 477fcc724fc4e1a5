pub mod Tables
pub mod Raising
