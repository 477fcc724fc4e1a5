pub mod ClearedScratch
pub mod Lowest
pub mod Visited
