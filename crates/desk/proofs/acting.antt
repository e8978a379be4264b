pub mod RefusalLaws
pub mod PlanLaws
pub mod CallLaws
