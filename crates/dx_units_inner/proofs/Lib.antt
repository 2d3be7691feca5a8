pub mod Conversions
pub mod Chart
