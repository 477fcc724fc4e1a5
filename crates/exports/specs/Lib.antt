pub mod BoardExports
