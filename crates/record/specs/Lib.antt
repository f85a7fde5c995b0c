pub mod Units
pub mod Record
pub mod Refusals
pub mod Commands
pub mod Remaining
