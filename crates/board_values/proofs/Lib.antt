pub mod Flags
pub mod FreeNames
