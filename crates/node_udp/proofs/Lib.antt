mod OverFile
mod Opened
