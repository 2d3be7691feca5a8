pub mod Channels
pub mod Numbers
pub mod Parts
