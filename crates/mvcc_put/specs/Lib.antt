pub mod PlannedPut
pub mod WriteLooks
pub mod DeleteRange
pub mod PlannedDeletes
pub mod views
