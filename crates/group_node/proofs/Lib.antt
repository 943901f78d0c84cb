mod Exact
mod Starts
