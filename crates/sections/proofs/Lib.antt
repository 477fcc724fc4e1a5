pub mod Zeros
pub mod Laws
pub mod Limits
pub mod Sectioned
pub mod HandedOn
