-- what it is for a promise to settle its answer
pub mod Settled
