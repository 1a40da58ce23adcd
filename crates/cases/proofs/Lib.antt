pub mod ReadLaws
pub mod PlanLaws
