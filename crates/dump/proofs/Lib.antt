pub mod Channels
pub mod Numbers
pub mod Places
pub mod Rows
pub mod Sums
