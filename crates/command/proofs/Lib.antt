pub mod Same
pub mod Sequences
