-- the laws of an identifier's calls
pub mod Shares
pub mod Ranges
pub mod Turns
pub mod Waves
pub mod Delays
pub mod Settings
pub mod Modulations
pub mod Answered
