pub mod CauseLaws
pub mod IntentLaws
pub mod AnswerLaws
pub mod ReadAlikeLaws
