pub mod Rooms
pub mod Graded
pub mod Answered
