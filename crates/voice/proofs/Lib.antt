-- laws for the functions' proofs, and for the crates above
pub mod Tests
pub mod States
pub mod Kept
pub mod Switch
