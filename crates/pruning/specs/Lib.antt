pub mod Prune
pub mod Alternation
pub mod Errors
pub mod Candidates
pub mod Sort
