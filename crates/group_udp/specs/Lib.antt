pub mod Sources
pub mod OwnDatagrams
pub mod Pace
pub mod Rests
pub mod Kinds
pub mod TypedQueue
