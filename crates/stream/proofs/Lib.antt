mod Steps
mod Line
mod Feeds
mod Pieces
mod Starts
pub mod promises
