pub mod Transaction
pub mod views
