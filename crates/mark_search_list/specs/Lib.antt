pub mod Queue
pub mod Steps
