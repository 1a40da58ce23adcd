pub mod First
pub mod Subdivide
