pub mod Prompts
pub mod Refusals
