pub mod Window
pub mod Means
pub mod Bounds
pub mod Running
