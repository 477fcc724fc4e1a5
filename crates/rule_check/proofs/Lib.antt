pub mod Faults
pub mod Content
pub mod Promise
pub mod Left
pub mod Calls
