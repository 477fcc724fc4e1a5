pub mod Applying
pub mod Needed
