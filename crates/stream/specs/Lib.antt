pub mod Part
pub mod Run
pub mod Feed
pub mod Start
