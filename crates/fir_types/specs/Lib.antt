pub mod Kinds
pub mod Realizable
pub mod Edges
pub mod Adjusted
pub mod Taps
pub mod Cases
