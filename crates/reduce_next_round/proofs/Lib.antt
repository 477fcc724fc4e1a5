pub mod Taking
pub mod Looking
