pub mod Parts
pub mod FileParts
pub mod Shown
pub mod views
