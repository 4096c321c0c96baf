-- Words that only contracts of the code need: how they view its values, and what holds inside.
pub mod Places
pub mod Joining
pub mod Taken
pub mod Changes
pub mod Planned
pub mod Stages
pub mod Staged
