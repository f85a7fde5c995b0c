pub mod Stands
pub mod Served
pub mod Ended
pub mod ReplayOrder
pub mod Replays
pub mod Sent
pub mod promises
