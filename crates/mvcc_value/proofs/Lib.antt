pub mod ValueLaws
pub mod Examples
pub mod VarintLaws
pub mod DecodingLaws
pub mod LengthLaws
pub mod PlainLaws
