-- What each module of lemmas speaks of.
pub mod BatchLaws
pub mod SoundLaws
pub mod StepLaws
pub mod NothingLaws
pub mod AnswerLaws
pub mod LooksLaws
pub mod WriteLaws
pub mod ReadLaws
pub mod TakingLaws
pub mod ResolutionLaws
