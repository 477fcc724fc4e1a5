pub mod Checking
pub mod Moving
pub mod Deciding
pub mod Calling
pub mod StrongFiles
pub mod Comparing
