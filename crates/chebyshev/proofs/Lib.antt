pub mod Halves
pub mod NodeLaws
pub mod Sums
pub mod CoefficientLaws
pub mod Given
pub mod Refused
