pub mod DeadSince
pub mod ComputeStats
pub mod Names
pub mod Running
pub mod Settling
pub mod Laws
pub mod views
