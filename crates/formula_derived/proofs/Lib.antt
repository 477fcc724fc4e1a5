pub mod Keeping
pub mod Deriving
pub mod WeakUntil
