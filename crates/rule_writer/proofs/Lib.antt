pub mod Rows
pub mod SoFar
pub mod Parts
