pub mod Streams
pub mod Files
pub mod Run
pub mod Commands
