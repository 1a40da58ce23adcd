pub mod Sizes
pub mod Slot
pub mod Calls
pub mod Bank
pub mod Runs
pub mod Content
