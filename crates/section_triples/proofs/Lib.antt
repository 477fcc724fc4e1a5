pub mod TripleBytes
