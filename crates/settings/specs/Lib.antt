pub mod Table
pub mod Settings
pub mod SettingsC
