pub mod Passing
pub mod Reading
pub mod Comparing
pub mod Pointing
