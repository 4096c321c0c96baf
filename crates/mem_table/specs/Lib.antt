pub mod Table
pub mod views
