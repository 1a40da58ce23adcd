pub mod Packing
pub mod Alike
