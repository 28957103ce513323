pub mod MemoLaws
pub mod PlanLaws
