-- What each module of lemmas speaks of.
pub mod TextLaws
pub mod Examples
