-- What each module of lemmas speaks of.
pub mod LineLaws
pub mod OptionLaws
pub mod Examples
