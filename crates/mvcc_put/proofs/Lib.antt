pub mod WrittenLaws
pub mod OnTopLaws
pub mod PlanLaws
pub mod EmptyLaws
pub mod PointsLaws
pub mod DeleteLaws
