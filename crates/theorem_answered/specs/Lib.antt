-- which calls an identifier's notes make, and whether each is answered
pub mod Answered
