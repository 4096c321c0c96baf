-- What each module of lemmas speaks of.
pub mod LengthLaws
pub mod KeptLaws
pub mod GetLaws
pub mod ListLaws
pub mod KeysLaws
pub mod WalkLaws
pub mod CursorLaws
pub mod WayLaws
pub mod TakenLaws
pub mod AnswerLaws
pub mod WalkingLaws
