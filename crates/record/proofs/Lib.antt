pub mod Fit
pub mod Ceiling
pub mod Rules
pub mod Refused
pub mod Kept
pub mod promises
