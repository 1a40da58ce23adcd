pub mod Request
pub mod Interpolant
pub mod Accept
pub mod Facts
