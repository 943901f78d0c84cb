mod Footers
mod Told
mod Waits
