-- Words that only contracts of the code need: how they view its values, and what holds inside.
pub mod Told
pub mod Changed
pub mod Lending
pub mod Answered
pub mod Gathering
pub mod Stopping
pub mod Ending
