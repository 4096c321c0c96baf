pub mod Read
pub mod Scan
pub mod Causes
pub mod Laws
pub mod views
