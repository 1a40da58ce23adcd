pub mod Bytes
pub mod Image
