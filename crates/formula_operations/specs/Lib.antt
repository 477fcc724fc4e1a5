pub mod Applying
pub mod Groups
