-- Words that only contracts of the code need: how they view its values, and what holds inside.
pub mod Seen
pub mod SeenRange
pub mod Places
pub mod Reading
pub mod Writing
pub mod Held
