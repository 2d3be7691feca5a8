-- the laws of whole runs
pub mod Demand3
pub mod Reached
pub mod Lost
pub mod Sounds
