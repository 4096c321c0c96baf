pub mod Named
pub mod Output
pub mod Promise
pub mod views
