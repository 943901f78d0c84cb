pub mod Twins
pub mod States
pub mod Originals
pub mod Goes
pub mod Counterexamples
