pub mod EdgeLaws
pub mod WalkLaws
pub mod Bound
pub mod CutLaws
pub mod Cases
pub mod FirstLaws
