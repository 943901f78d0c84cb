pub mod Texts
pub mod Groups
pub mod Moments
