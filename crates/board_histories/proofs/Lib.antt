pub mod HistoryReadings
pub mod Passed
pub mod Standing
pub mod Steps
pub mod Anew
pub mod Theorem
