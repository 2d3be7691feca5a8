-- the laws that belong to no one function
pub mod Quarters
pub mod Calls
pub mod State
pub mod Same
pub mod Phases
pub mod Accepted
pub mod Empty
pub mod Lengths
