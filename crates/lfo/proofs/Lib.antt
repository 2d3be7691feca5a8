-- the laws of the answers and of calls
pub mod Tests
pub mod Fields
pub mod Phases
pub mod Accepted
pub mod Calls
