-- the laws that belong to no one function
pub mod Loop
pub mod Parts
pub mod Blind
pub mod Phases
