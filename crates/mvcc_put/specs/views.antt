-- Words that only contracts of the code need: how they view its values, and what holds inside.
pub mod Written
pub mod Changed
pub mod Planning
pub mod Gathered
