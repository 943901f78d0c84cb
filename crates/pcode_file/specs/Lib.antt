pub mod Parts
pub mod InFile
pub mod Checks
