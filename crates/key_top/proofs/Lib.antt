pub mod HereLaws
pub mod TopLaws
pub mod VersionLaws
mod TotalLaws
pub mod GatheringLaws
pub mod StoredByLaws
