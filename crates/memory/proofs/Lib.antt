pub mod Fit
pub mod Order
pub mod Rules
pub mod Made
pub mod Filled
pub mod Walked
pub mod Late
pub mod promises
