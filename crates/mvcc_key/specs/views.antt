-- Words that only contracts of the code need: how they view its values, and what holds inside.
pub mod Looks
pub mod CursorMoves
pub mod AbbreviatedKey
pub mod Seen
pub mod SeenKey
pub mod SeenPoint
pub mod SeenRange
pub mod Building
