pub mod Below
pub mod GoingOn
pub mod Processes
pub mod Fair
pub mod Stuck
