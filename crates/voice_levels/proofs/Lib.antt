-- the laws of the definitions
pub mod Calls
pub mod Places
pub mod Rest
pub mod Stages
pub mod Steps
