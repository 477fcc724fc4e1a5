pub mod TripleBytes
pub mod CountsRead
pub mod LayoutRead
