pub mod Memory
pub mod Walk
