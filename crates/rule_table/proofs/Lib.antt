pub mod Places
pub mod Facts
pub mod Searched
pub mod Tried
