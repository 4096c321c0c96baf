-- Words that only contracts of the code need: how they view its values, and what holds inside.
pub mod Named
pub mod Reading
pub mod SeenWord
