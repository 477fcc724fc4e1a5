pub mod Deciding
pub mod Calling
