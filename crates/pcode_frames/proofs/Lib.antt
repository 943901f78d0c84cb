pub mod Links
pub mod Calling
