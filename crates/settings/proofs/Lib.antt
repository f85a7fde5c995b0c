pub mod Lists
pub mod Rows
pub mod Values
pub mod Ranges
pub mod Forms
pub mod Fit
