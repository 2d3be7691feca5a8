pub mod Whole
pub mod Written
