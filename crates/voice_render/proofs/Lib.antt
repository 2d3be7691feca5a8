-- laws for the functions' proofs, and for the crates above
pub mod Blocks
pub mod Alike
pub mod Kept
pub mod Switch
