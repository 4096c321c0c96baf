pub mod Encoding
pub mod Found
pub mod views
