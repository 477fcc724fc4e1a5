pub mod Raises
pub mod Turning
