mod Pieces
mod Running
