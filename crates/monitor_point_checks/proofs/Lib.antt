pub mod PointChecks
