pub mod EdgeLaws
pub mod TapLaws
pub mod Starred
pub mod Refused
