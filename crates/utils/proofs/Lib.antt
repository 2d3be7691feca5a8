pub mod Whole
pub mod Lookup
