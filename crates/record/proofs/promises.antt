-- What the crate promises.
pub mod Made
pub mod Remaining
