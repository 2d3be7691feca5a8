pub mod F32
pub mod Extremes
pub mod Words
