-- What the crate promises beside its contracts.
pub mod Rules
