pub mod Texts
pub mod Trip
pub mod Forms
pub mod SettingsC
pub mod promises
