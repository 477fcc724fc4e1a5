pub mod Bytes
pub mod Entries
pub mod Halves
pub mod PairWords
pub mod Laws
pub mod Listed
pub mod Tables
