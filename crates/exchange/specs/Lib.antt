pub mod Bands
pub mod Flatness
pub mod Exchange
pub mod Job
pub mod Step
pub mod Design
pub mod Facts
