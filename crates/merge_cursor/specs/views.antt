-- Words that only contracts of the code need: how they view its values, and what holds inside.
pub mod Standing
pub mod Moves
pub mod Seen
pub mod SeenVisible
pub mod PartsMoves
