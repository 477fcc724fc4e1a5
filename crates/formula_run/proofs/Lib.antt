pub mod Needs
pub mod Rooms
pub mod Steps
