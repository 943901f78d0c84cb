pub mod Results
pub mod Procedures
pub mod Whole
