pub mod RangeLaws
pub mod IdLaws
