-- Words that only contracts of the code need: how they view its values, and what holds inside.
pub mod Seen
pub mod Groups
pub mod Versions
