pub mod Write
pub mod Writable
pub mod Outcome
pub mod Laws
pub mod Causes
pub mod Planned
pub mod views
