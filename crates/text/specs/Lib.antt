pub mod Parts
pub mod Words
pub mod Numerals
pub mod Fractions
