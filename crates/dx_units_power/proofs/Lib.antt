pub mod Orders
pub mod Reach
