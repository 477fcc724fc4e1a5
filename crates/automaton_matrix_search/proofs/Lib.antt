pub mod Finding
pub mod Growing
pub mod Staying
pub mod Adding
pub mod Recording
