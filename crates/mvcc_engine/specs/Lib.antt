pub mod Step
pub mod Looks
pub mod views
