pub mod Decimals
pub mod Hexes
