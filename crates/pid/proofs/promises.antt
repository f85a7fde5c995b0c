-- What the crate promises: one file for each demand, and 01's own numbers.
pub mod Demand1
pub mod Demand2
pub mod Play
pub mod Examples
pub mod Mean
pub mod Jump
