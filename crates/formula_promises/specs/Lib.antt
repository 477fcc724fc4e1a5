pub mod Operations
pub mod Checks
pub mod FormulaRule
pub mod FormulasTheorem
pub mod Values
