pub mod Passed
pub mod RepeatedOrder
pub mod Laid
pub mod Places
pub mod Content
pub mod Promise
pub mod CheckedAutomaton
pub mod Calls
