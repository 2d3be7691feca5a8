pub mod Bounded
pub mod Fraction
pub mod Halves
pub mod Lines
pub mod Near
pub mod Paired
pub mod Places
pub mod Turns
