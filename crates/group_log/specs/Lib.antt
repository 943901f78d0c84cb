pub mod Drops
pub mod Milestones
pub mod Notes
pub mod Recent
pub mod Roles
pub mod Sends
pub mod Traces
