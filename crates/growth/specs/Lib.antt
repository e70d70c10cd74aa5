pub mod Answers
pub mod AnswerLaws
pub mod Plans
pub mod SpliceLaws
pub mod PlanLaws
pub mod PlanCases
pub mod OutcomeLaws
