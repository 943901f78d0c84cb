pub mod Lists
mod Output
mod Rows
mod Fronts
mod Steps
mod Seats
mod RunSteps
pub mod SmallPrograms
pub mod WrittenVotes
mod ChainedSteps
mod GroupsReached
mod WeakerSteps
mod WithoutKeyRules
mod WithoutOtherRules
mod OverlappingBatches
