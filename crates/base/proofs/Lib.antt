pub mod Branches
pub mod Lists
pub mod Steps
