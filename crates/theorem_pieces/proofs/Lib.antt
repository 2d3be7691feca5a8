-- the laws of a bank in pieces, and the theorem over any list of them
pub mod Frames
pub mod Sums
pub mod Runs
pub mod Known
pub mod Reports
pub mod Cuts
pub mod Left
