pub mod Command
pub mod Sequence
