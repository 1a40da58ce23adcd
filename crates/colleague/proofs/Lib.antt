pub mod BuiltLaws
pub mod LentLaws
pub mod BalanceLaws
pub mod AnswerLaws
pub mod Given
pub mod Refuses
