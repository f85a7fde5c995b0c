-- What the crate promises.
pub mod Jump
