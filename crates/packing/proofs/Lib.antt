pub mod ReadBack
pub mod Contents
