pub mod Errors
pub mod Candidates
pub mod Proxy
pub mod Extrema
pub mod Batches
