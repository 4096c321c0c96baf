-- Words that only contracts of the code need: how they view its values, and what holds inside.
pub mod Cursors
pub mod Seen
pub mod Closing
pub mod Changing
