pub mod Runs
pub mod Network
pub mod Terminals
pub mod Wrong
