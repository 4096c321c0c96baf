-- Words that only contracts of the code need: how they view its values, and what holds inside.
pub mod Seen
pub mod Hidden
pub mod Own
pub mod Left
pub mod Front
pub mod KeyPlan
pub mod Gathered
pub mod Walked
