pub mod Angles
pub mod Nodes
pub mod Coefficients
pub mod Places
