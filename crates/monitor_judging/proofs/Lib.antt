pub mod Settled
pub mod Judging
