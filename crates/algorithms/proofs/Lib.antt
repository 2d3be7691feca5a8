-- the laws that belong to no one function
pub mod Lengths
pub mod Steps
pub mod Tables
pub mod Same
pub mod Together
pub mod Accepted
pub mod Reasons
