pub mod Command
pub mod Halt
pub mod Text
