mod CallLeaves
pub mod WorldAsGroup
mod CallCases
mod GroupCalls
mod Written
mod Happens
mod ProcessEvents
mod DeedsAsSteps
mod WrittenLogs
mod WrongLogs
mod WitnessLogs
pub mod ScriptLines
