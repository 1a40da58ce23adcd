pub mod Floats
pub mod Operations
pub mod Words
pub mod Loops
pub mod Outcome
pub mod Refusals
pub mod Cases
