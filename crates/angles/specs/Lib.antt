pub mod Constants
pub mod Series
pub mod Turns
pub mod Root
pub mod Arccosine
