mod Fit
pub mod Sums
pub mod Ranged
pub mod Rules
pub mod Taken
pub mod Runs
pub mod Good
pub mod promises
