pub mod AnswerLaws
pub mod ArrayLaws
pub mod CountLaws
pub mod EdgeLaws
pub mod MatrixLaws
pub mod PlanLaws
