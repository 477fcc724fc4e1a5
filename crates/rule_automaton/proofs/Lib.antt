pub mod Values
pub mod EachState
pub mod StateKinds
pub mod Successors
