pub mod Bounds
pub mod Turns
pub mod OneTurn
