-- The theorems of the two programs.
pub mod Cut
pub mod Lines
pub mod Valid
pub mod Examples
pub mod Told
