pub mod Blocks
pub mod TwoBytes
