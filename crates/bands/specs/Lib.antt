pub mod Numbered
pub mod Lookup
pub mod Rules
