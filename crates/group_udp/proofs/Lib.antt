mod Senders
mod Kept
mod Typing
