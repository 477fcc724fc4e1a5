pub mod Moving
pub mod WordMoving
pub mod WordFaults
