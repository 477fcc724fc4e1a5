pub mod Boards
pub mod Monitors
pub mod Checks
pub mod Promises
pub mod OneAnswers
