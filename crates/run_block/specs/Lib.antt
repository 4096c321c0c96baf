pub mod RunFormat
pub mod Runs
pub mod TimeSpan
pub mod views
