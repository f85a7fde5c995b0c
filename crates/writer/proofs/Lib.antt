pub mod Rows
pub mod Longest
pub mod Writes
pub mod promises
