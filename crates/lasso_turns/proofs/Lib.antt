pub mod Looks
pub mod Raises
pub mod Agreement
pub mod Cutting
pub mod Searching
