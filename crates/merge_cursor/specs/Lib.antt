pub mod Merged
pub mod Visible
pub mod views
