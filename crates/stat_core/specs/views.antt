-- Words that only contracts of the code need: how they view its values, and what holds inside.
pub mod Limits
pub mod Seen
pub mod Counters
pub mod Tallies
