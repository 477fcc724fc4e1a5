pub mod Tables
pub mod Raising
pub mod Settled
