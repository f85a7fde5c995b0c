-- What the crate promises: one file for each demand and for replay, and 01's own numbers.
pub mod Told
pub mod Delivery
pub mod Demand3
pub mod Replay
pub mod Jump
pub mod Retries
pub mod Bench
