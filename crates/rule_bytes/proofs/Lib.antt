pub mod Placed
pub mod Counted
pub mod Marks
pub mod CopiedParts
