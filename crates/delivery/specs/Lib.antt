pub mod Numbered
pub mod Demand3
pub mod Replay
pub mod Bench
