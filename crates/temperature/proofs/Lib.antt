pub mod InRange
pub mod Apart
pub mod Earliest
pub mod Ranged
pub mod promises
