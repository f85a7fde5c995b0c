pub mod Verdict
pub mod Oven
pub mod Journal
pub mod Judge
