-- What each module of lemmas speaks of.
pub mod NumberLaws
pub mod CutLaws
pub mod WordLaws
pub mod NamedLaws
pub mod EscapeLaws
pub mod FormLaws
pub mod SequenceLaws
pub mod Examples
