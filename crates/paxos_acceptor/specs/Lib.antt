pub mod Answers
pub mod Records
pub mod Stores
pub mod Follows
pub mod Memories
pub mod Opening
pub mod Saves
