pub mod Proposer
pub mod States
pub mod KeptVotes
pub mod Fields
pub mod Backed
