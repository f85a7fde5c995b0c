mod Verdicts
pub mod promises
