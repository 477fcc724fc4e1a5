pub mod Adding
pub mod Keeping
pub mod Classes
pub mod Following
pub mod Letters
