mod GivenWasSent
mod RunHistories
mod GroupLogs
pub mod RunPrefixes
mod RunsShow
mod TerminalsShow
mod RunsMayHear
mod NetworksCarry
mod WrongRuns
