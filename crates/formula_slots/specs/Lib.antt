pub mod Slots
pub mod Kept
