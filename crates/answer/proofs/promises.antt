-- The theorems of a line.
pub mod Verdict
pub mod Told
