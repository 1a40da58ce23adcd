pub mod Matrix
pub mod Built
pub mod Balance
pub mod Answer
pub mod Lent
