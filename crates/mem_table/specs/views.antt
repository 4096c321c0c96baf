-- Words that only contracts of the code need: how they view its values, and what holds inside.
pub mod Places
pub mod Seen
pub mod Entries
pub mod Slots
pub mod Gaps
pub mod Halves
pub mod Held
