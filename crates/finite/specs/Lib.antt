pub mod Letters
pub mod Search
pub mod Select
pub mod Shortlex
pub mod Tells
pub mod Each
