pub mod RangeOps
pub mod views
