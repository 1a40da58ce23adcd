pub mod Residual
pub mod Rows
pub mod Reciprocals
pub mod Brackets
pub mod Answer
