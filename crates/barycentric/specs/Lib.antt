pub mod Limits
pub mod Weights
pub mod Delta
pub mod Abscissas
pub mod Response
pub mod Lanes
pub mod Cases
