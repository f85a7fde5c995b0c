pub mod Lines
pub mod Writer
