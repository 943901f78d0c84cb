pub mod Traffic
pub mod Arrivals
pub mod Doings
pub mod Process
pub mod Turns
pub mod Presses
pub mod Campaigns
pub mod Starts
