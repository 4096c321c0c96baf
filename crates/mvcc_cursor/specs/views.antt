-- Words that only contracts of the code need: how they view its values, and what holds inside.
pub mod WellFormedProps
pub mod Short
pub mod Stands
pub mod Under
pub mod Lent
pub mod Newer
pub mod ToldWhole
pub mod Seen
pub mod Filled
pub mod Many
