-- What the crate promises.
pub mod Mean
