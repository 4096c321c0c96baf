-- What each module of lemmas speaks of.
pub mod StepLaws
pub mod NamedLaws
pub mod TxnLaws
pub mod BegunLaws
pub mod PartLaws
pub mod LayoutLaws
pub mod LineLaws
pub mod ReadLaws
pub mod GatherLaws
pub mod OutputLaws
pub mod RunLaws
pub mod Examples
