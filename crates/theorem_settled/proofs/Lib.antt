-- settled answers
pub mod Settled
