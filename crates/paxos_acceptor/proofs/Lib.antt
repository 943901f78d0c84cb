pub mod Ranges
pub mod Fitting
pub mod Reports
