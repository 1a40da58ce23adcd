pub mod Answers
pub mod Plans
pub mod Intervals
pub mod Matrices
