pub mod Resolve
pub mod Resolved
pub mod Causes
pub mod Laws
pub mod Planned
pub mod ResolveLooks
pub mod views
