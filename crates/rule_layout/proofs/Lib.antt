pub mod CountsRead
pub mod LayoutRead
pub mod MarkRanges
