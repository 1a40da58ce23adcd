pub mod Lines
pub mod Verdicts
