pub mod WellFormed
pub mod KeyPoints
pub mod Standing
pub mod KeyHistory
pub mod views
