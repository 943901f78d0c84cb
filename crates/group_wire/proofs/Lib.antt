pub mod Carrying
pub mod Hearing
pub mod Going
mod Acting
mod Typing
