pub mod Command
pub mod Goes
pub mod Refusals
pub mod Text
pub mod Trailer
pub mod Wakes
